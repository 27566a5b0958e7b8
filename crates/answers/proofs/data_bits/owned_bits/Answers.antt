-- `data_bits::owned_bits` meets its contract. The loop's invariant: the bits from e on are found, as far as they are kept, and
-- those below e are still to be found. Assumes nothing.
use mathlib.Core.Path.{◌≡◌, refl, ap, subst, ◌∙◌}
use mathlib.Core.Bool.{Bool, true, false, cond}
use mir.Val.{bool_byte}
use Prim.Native.Nat.{ℕ, ◌+◌, ◌-◌, ◌≤◌}
use native.Mathlib.Omega.{arith}
use lib.Dec.{eqb}
use lib.ListN.{get_or}
use Rattle.machine.specs.Word.{field_b}
use Rattle.machine.specs.Table.{endpoint}
use Rattle.machine.specs.Queue.{owner}
use Rattle.table_layout.proofs.Places.{endpoint-read}
use Rattle.answers.proofs.Digits.{digit_sum, Kept, none_kept, one_kept, all-kept}
use Rattle.answers.proofs.AnswerWords.{owns_at, owned-digits, bit-more, one-bit}
use Rattle.answers.proofs.data_bits.owned_bits.Goals as goal

byte : (b : Bool) → bool_byte b ≡ cond b 1 0
byte true = refl
byte false = refl

pub loop-e-init : goal.loop-e-init
loop-e-init c =
    let a = c.args in
    let d = owns_at a.table.now a.caller in
    subst (Kept 2 d a.m 0) (ap (digit_sum 2 d) c.requires.m_is_endpoints ∙ owned-digits a.table.now a.caller) (none_kept 2 d a.m)

pub loop-e-preserved : goal.loop-e-preserved
unfolding owner
loop-e-preserved c =
    let a = c.args in
    let t = a.table.now in
    let owned : field_b (get_or t (c.endpoint_at-at.result + 1) 0) ≡ owner (endpoint t (c.loop-e.e - 1)) =
    ap field_b
    (ap (λ (k : ℕ). get_or t (k + 1) 0) c.endpoint_at-at.ensures ∙ endpoint-read _ _ c.requires.n_is_domains _ 1 (omega arith))
    in
    let digit : c.from-bits.result ≡ owns_at t a.caller (c.loop-e.e - 1) =
    c.from-bits.ensures ∙ byte _ ∙ ap (λ (o : ℕ). cond (eqb o a.caller) 1 0) owned
    in
    let few : c.from-bits.result ≤ 1 = omega (arith, digit, one-bit (eqb (owner (endpoint t (c.loop-e.e - 1))) a.caller)) in
    one_kept 2 _ c.loop-e.e c.loop-e.bits _ c.from-bits.result _ c.loop-e-test.true c.loop-e.invariant digit
    (λ all is. bit-more c.loop-e.bits all c.from-bits.result few is)

pub returns : goal.returns
returns c =
    let a = c.args in
    let none : c.loop-e.e ≡ 0 = omega arith in
    all-kept 2 (owns_at a.table.now a.caller) _ _ (rw none at c.loop-e.invariant)
