-- `data_bits::rights_bits` meets its contract. The loop's invariant: the rights on the targets from the present one on are found,
-- as far as they are kept, and those below are still to be found. Assumes nothing.
use mathlib.Core.Path.{◌≡◌, ap, subst, ◌∙◌}
use Prim.Native.Nat.{ℕ, ◌-◌, ◌≤◌}
use native.Mathlib.Omega.{arith}
use lib.ListN.{get_or}
use Rattle.machine.specs.Word.{payload}
use Rattle.table_layout.proofs.Places.{rights-read}
use Rattle.answers.proofs.Digits.{Kept, none_kept, one_kept, all-kept}
use Rattle.answers.proofs.AnswerWords.{rights_on, rights-start, rights-digit, four-more}
use Rattle.answers.proofs.data_bits.rights_bits.Goals as goal

pub loop-target-init : goal.loop-target-init
loop-target-init c =
    let a = c.args in
    let d = rights_on a.table.now a.caller a.low in
    let count = a.high - a.low in
    subst (Kept 16 d count 0) (rights-start _ _ c.requires.n_is_domains a.caller _ _ c.requires.eight) (none_kept 16 d count)

pub offset_bounds-table-at : goal.offset_bounds-table-at
offset_bounds-table-at c = omega (arith, c.rights_at-at.ensures, c.requires.eight.within)

pub bounds-table-at : goal.bounds-table-at
bounds-table-at c = omega (arith, c.rights_at-at.ensures, c.requires.eight.within)

pub loop-target-preserved : goal.loop-target-preserved
loop-target-preserved c =
    let a = c.args in
    let t = a.table.now in
    let target = c.loop-target.target in
    let held = payload (get_or t c.rights_at-at.result 0) in
    let down : target - a.low - 1 ≡ target - 1 - a.low = omega arith in
    let most : target ≤ a.n = omega (arith, c.requires.eight.within) in
    let digit : held ≡ rights_on t a.caller a.low (target - a.low - 1) =
    ap (λ (k : ℕ). payload (get_or t k 0)) c.rights_at-at.ensures
    ∙ rights-read t _ c.requires.n_is_domains _ _
    ∙ rights-digit t _ c.requires.n_is_domains _ a.low target c.loop-target-test.true most in
    rw (c.from.ensures, c.from-in-loop-target.ensures)
    (rw down at
    (one_kept 16 (rights_on t a.caller a.low) (target - a.low) c.loop-target.bits _ held _ (omega arith) c.loop-target.invariant digit
    (λ all is. four-more c.loop-target.bits all held is)))

pub returns : goal.returns
returns c =
    let a = c.args in
    let none : c.loop-target.target - a.low ≡ 0 = omega arith in
    all-kept 16 (rights_on a.table.now a.caller a.low) _ _ (rw none at c.loop-target.invariant)
