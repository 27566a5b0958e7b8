-- `mend` meets its contract: a table refused with 4 or 5 is mended by the two passes, any other stays. Assumes nothing.
use Prim.Native.Nat.{ℕ, ◌<◌, ◌≤◌}
use mathlib.Core.Path.{◌≡◌, subst, ◌∙◌}
use mathlib.Core.List.{List}
use Rattle.machine.specs.Check.{table_code}
use Rattle.table_check.specs.Checked.{Headed}
use Rattle.repair.proofs.MendPasses.{still-headed, both-passes, from-four, below-four}
use Rattle.repair.proofs.mend.mend.Goals as goal

-- a table whose code is 4 or 5
headed : (t : List ℕ) (code : ℕ) → code ≡ table_code t → 4 ≤ code → Headed t
headed t code e l = from-four t (subst (λ k. 4 ≤ k) e l)

pub returns-then-code-lt4 : goal.returns-then-code-lt4
returns-then-code-lt4 c = below-four _ (subst (λ k. k < 4) (c.code.ensures ∙ c.check.ensures) c.if-code-lt4.true)

pub mend_rights-requires : goal.mend_rights-requires
mend_rights-requires c = headed _ _ (c.code.ensures ∙ c.check.ensures) c.if-code-lt4.false

pub mend_endpoints-requires : goal.mend_endpoints-requires
mend_endpoints-requires c =
    still-headed _ _ _ (headed _ _ (c.code.ensures ∙ c.check.ensures) c.if-code-lt4.false) c.mend_rights.ensures

pub returns : goal.returns
returns c =
    both-passes _ _ _ (headed _ _ (c.code.ensures ∙ c.check.ensures) c.if-code-lt4.false) c.mend_rights.ensures c.mend_endpoints.ensures
