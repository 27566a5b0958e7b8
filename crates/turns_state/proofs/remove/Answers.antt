-- `remove` meets its contract: what is lent of the state are the domain's words. Assumes nothing.
use mathlib.Core.Path.{◌≡◌, sym, ap, ◌∙◌}
use mathlib.Core.Bool.{Bool}
use mathlib.Core.List.{List}
use Prim.Native.Nat.{ℕ, ◌+◌, ◌-◌, ◌*◌}
use native.Mathlib.Omega.{arith}
use borrow.Rule.Slice.PartMut.{put_mid}
use lib.ListN.{take, drop, set}
use Rattle.turns_state.specs.Pending.{dequeuable, left_by_dequeue}
use Rattle.turns_state.specs.State.{block, set_block}
use Rattle.turns_state.proofs.Blocks.{short-removed, removed-none, removed-is}
use Rattle.turns_state.proofs.remove.Goals as goal

-- what is lent of the state, as the domain's words
whole : (d : ℕ) → 1 + 17 * d + 17 - (1 + 17 * d) ≡ 17
whole d = omega arith

done : (ws : List ℕ) (d few : ℕ) (x : Bool) → x ≡ dequeuable (take (1 + 17 * d + 17 - (1 + 17 * d)) (drop (1 + 17 * d) ws)) few → x ≡ dequeuable (block ws d) few
unfolding block
done ws d few x is = is ∙ ap (λ (k : ℕ). dequeuable (take k (drop (1 + 17 * d) ws)) few) (whole d)

left : (ws : List ℕ) (d few : ℕ) (b : List ℕ) → b ≡ left_by_dequeue (take (1 + 17 * d + 17 - (1 + 17 * d)) (drop (1 + 17 * d) ws)) few
    → put_mid (1 + 17 * d) (1 + 17 * d + 17 - (1 + 17 * d)) ws b ≡ set_block ws d (left_by_dequeue (block ws d) few)
unfolding set_block block
left ws d few b is =
    ap (put_mid (1 + 17 * d) (1 + 17 * d + 17 - (1 + 17 * d)) ws) is
    ∙ ap (λ (k : ℕ). put_mid (1 + 17 * d) k ws (left_by_dequeue (take k (drop (1 + 17 * d) ws)) few)) (whole d)

pub returns-then-state-end : goal.returns-then-state-end
returns-then-state-end c =
    let short = short-removed c.args.state.now c.args.domain c.if-state-end.true c.args.few in
    record { value = short.0; state_after = short.1 }

pub returns-then-not-dequeue : goal.returns-then-not-dequeue
returns-then-not-dequeue c =
    let a = c.args in
    let none = sym (done a.state.now a.domain a.few _ c.dequeue.ensures.value) ∙ c.if-not-dequeue.true in
    record {
      value = sym none;
      state_after = left a.state.now a.domain a.few _ c.dequeue.ensures.block_after ∙ removed-none a.state.now a.domain a.few none;
    }

pub returns : goal.returns
returns c =
    let a = c.args in
    let there = sym (done a.state.now a.domain a.few _ c.dequeue.ensures.value) ∙ c.if-not-dequeue.false in
    record {
      value = sym there;
      state_after =
          ap (λ (xs : List ℕ). set xs 0 (a.domain + 1)) (left a.state.now a.domain a.few _ c.dequeue.ensures.block_after)
          ∙ removed-is a.state.now a.domain a.few there;
    }
