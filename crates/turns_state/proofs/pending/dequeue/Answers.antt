-- `dequeue` meets its contract: words that pass the test meet the precondition of `move_down`. Assumes nothing.
use mathlib.Core.Path.{sym, ◌∙◌}
use Rattle.turns_state.proofs.Laws.{may-dequeue, not-dequeued, dequeued-there}
use Rattle.turns_state.proofs.pending.dequeue.Goals as goal

pub returns-then-not-dequeuable : goal.returns-then-not-dequeuable
returns-then-not-dequeuable c =
    let h = sym c.dequeuable.ensures ∙ c.if-not-dequeuable.true in
    record { value = sym h; block_after = not-dequeued c.args.block.now c.args.few h }

pub returns : goal.returns
returns c =
    let h = sym c.dequeuable.ensures ∙ c.if-not-dequeuable.false in
    record { value = sym h; block_after = c.move_down.ensures ∙ dequeued-there c.args.block.now c.args.few h }

pub move_down-requires : goal.move_down-requires
move_down-requires c = may-dequeue c.args.block.now c.args.few (sym c.dequeuable.ensures ∙ c.if-not-dequeuable.false)
