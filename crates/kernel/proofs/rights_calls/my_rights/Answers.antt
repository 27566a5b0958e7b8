-- `rights_calls::my_rights` meets its contract: 12, or the rights, which are in the table. Assumes nothing.
use mathlib.Core.Path.{refl, ◌∙◌}
use Prim.Native.Nat.{◌<◌}
use native.Mathlib.Omega.{arith}
use Rattle.machine.specs.Table.{domains}
use Rattle.std.specs.Prelude.{Ok, Err}
use Rattle.rules.specs.Range.{call_numbers}
use Rattle.rules.specs.Access.{access_by}
use Rattle.rules.proofs.Places.{decided}
use Rattle.kernel.proofs.Fits.{rights-shown}
use Rattle.kernel.proofs.Ranges.{in-caller}
use Rattle.kernel.proofs.Outcomes.{settled-stopped, settled-rights}
use Rattle.kernel.proofs.rights_calls.my_rights.Goals as goal

pub returns-in_err-of_caller : goal.returns-in_err-of_caller
unfolding call_numbers
returns-in_err-of_caller c p =
    settled-stopped _ _ _ _ _ c.from_residual.ensures.1 (decided _ _ _ _ (Err _) c.requires.same_domains refl c.in_err-of_caller.ensures)

pub returns : goal.returns
unfolding call_numbers access_by
returns c p =
    let known : c.args.caller < domains c.args.table.now = omega (arith, in-caller _ _ c.in_ok-of_caller.ensures, c.requires.same_domains) in
    settled-rights _ _ _ _ _ _ (decided _ _ _ _ (Ok tt) c.requires.same_domains refl c.in_ok-of_caller.ensures)
    (c.rights_listed.ensures.low ∙ rights-shown _ c.requires.accepted _ 0 known)
    (c.rights_listed.ensures.high ∙ rights-shown _ c.requires.accepted _ 8 known)
