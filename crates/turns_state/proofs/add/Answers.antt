-- `add` meets its contract: what is lent of the state are the domain's words. Assumes nothing.
use mathlib.Core.Path.{◌≡◌, ap, ◌∙◌}
use Prim.Native.Nat.{ℕ, ◌+◌, ◌-◌, ◌*◌}
use native.Mathlib.Omega.{arith}
use borrow.Rule.Slice.PartMut.{put_mid}
use lib.ListN.{length, take, drop}
use Rattle.turns_state.specs.Pending.{enqueuable, left_by_enqueue}
use Rattle.turns_state.specs.State.{block, set_block}
use Rattle.turns_state.proofs.Blocks.{short-added, added_is}
use Rattle.turns_state.proofs.add.Goals as goal

pub returns-then-state-end : goal.returns-then-state-end
returns-then-state-end c =
    let short = short-added c.args.state.now c.args.domain c.if-state-end.true c.args.words.now in
    record { value = short.0; state_after = short.1 }

pub returns : goal.returns
unfolding set_block block
returns c =
    let ws = c.args.state.now in
    let vs = c.args.words.now in
    let at = 1 + 17 * c.args.domain in
    let whole : at + 17 - at ≡ 17 = omega arith in
    record {
      value = c.enqueue.ensures.value ∙ ap (λ (k : ℕ). enqueuable (take k (drop at ws)) (length vs)) whole;
      state_after =
          ap (put_mid at (at + 17 - at) ws) c.enqueue.ensures.block_after
          ∙ ap (λ (k : ℕ). put_mid at k ws (left_by_enqueue (take k (drop at ws)) vs)) whole
          ∙ added_is ws c.args.domain vs;
    }
