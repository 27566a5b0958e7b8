-- `second_of_oldest` meets its contract: what is lent of the state are the domain's words. Assumes nothing.
use mathlib.Core.Path.{◌≡◌, ap, ◌∙◌}
use Prim.Native.Nat.{ℕ, ◌+◌, ◌-◌, ◌*◌}
use native.Mathlib.Omega.{arith}
use lib.ListN.{take, drop}
use Rattle.turns_state.specs.Pending.{second_of_oldest}
use Rattle.turns_state.specs.State.{block}
use Rattle.turns_state.proofs.Blocks.{short-second}
use Rattle.turns_state.proofs.second_of_oldest.Goals as goal

pub returns-then-state-end : goal.returns-then-state-end
returns-then-state-end c = short-second _ _ c.if-state-end.true

pub returns : goal.returns
unfolding block
returns c =
    let a = c.args in
    let at = 1 + 17 * a.domain in
    let whole : at + 17 - at ≡ 17 = omega arith in
    c.second_of_oldest.ensures ∙ ap (λ (k : ℕ). second_of_oldest (take k (drop at a.state.now))) whole
