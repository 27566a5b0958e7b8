-- `bits` meets its contract. Assumes nothing.
use Rattle.std.proofs.Common.{◌≡◌, ◌∙◌, ap, [], ℕ, ◌+◌, ◌%◌, List, get_or, arith}
use Rattle.rights_matrix.specs.Rows.{held_in}
use Rattle.answers.proofs.Digits.{none_kept, one_kept, all-kept}
use Rattle.working_theory.specs.State.{row_bits}
use Rattle.working_rights_calls.proofs.bits.Goals as goal
use Rattle.working_rights_calls.proofs.bits.Invariants.{on_target}

-- only the low four bits of a target's index count
same_place : (rows : List (List ℕ)) (u g i : ℕ) → held_in rows u (g % 16 + i) ≡ held_in rows u (g + i)
unfolding held_in
same_place rows u g i = ap (λ (k : ℕ). get_or (get_or rows (u % 16) []) k 0) (omega arith)

pub loop-i-init : goal.loop-i-init
loop-i-init c = none_kept 16 (on_target c.args.rows.now c.args.holder c.args.from) 8

pub loop-i-preserved : goal.loop-i-preserved
loop-i-preserved c =
    let a = c.args in
    one_kept 16 (on_target a.rows.now a.holder a.from) c.loop-i.i c.loop-i.bits _ c.held-one.result.bits _ (omega arith) c.loop-i.invariant
    (c.held-one.ensures ∙ same_place _ _ _ _)
    (λ all is. omega (arith, is))

pub returns : goal.returns
unfolding row_bits
returns c =
    let a = c.args in
    let none : c.loop-i.i ≡ 0 = omega arith in
    all-kept 16 (on_target a.rows.now a.holder a.from) _ _ (rw none at c.loop-i.invariant)
