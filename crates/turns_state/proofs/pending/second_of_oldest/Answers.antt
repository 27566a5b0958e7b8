-- `second_of_oldest` meets its contract: the words that are lent to `second_of_first` are those that are pending. Assumes nothing.
use mathlib.Core.Path.{◌≡◌, ap, ◌∙◌}
use Prim.Native.Nat.{ℕ, ◌+◌, ◌-◌}
use native.Mathlib.Omega.{arith}
use borrow.Author.Tests.{eq-eqb, ne_eqb}
use lib.ListN.{take, drop}
use Rattle.calls.specs.Split.{second_at}
use Rattle.turns_state.specs.Pending.{count, pending_in, second_of_oldest}
use Rattle.turns_state.proofs.pending.second_of_oldest.Goals as goal

-- words that aren't seventeen
pub returns-then-block-ne17 : goal.returns-then-block-ne17
unfolding second_of_oldest
returns-then-block-ne17 c = rw (ne_eqb _ _ c.if-block-ne17.true)

pub returns : goal.returns
unfolding second_of_oldest pending_in
returns c =
    let b = c.args.block.now in
    let few : 1 + c.count-end.result - 1 ≡ count b = omega (arith, c.count-end.ensures.value) in
    c.second_of_first.ensures
    ∙ rw (eq-eqb _ _ c.if-block-ne17.false) (ap (λ (k : ℕ). second_at (take k (drop 1 b)) 0) few)
