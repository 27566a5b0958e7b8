-- `enqueue` meets its contract: words that pass the test meet the precondition of `put_last`. Assumes nothing.
use mathlib.Core.Path.{sym, ◌∙◌}
use lib.ListN.{length}
use Rattle.turns_state.proofs.Laws.{may-enqueue, not-enqueued, enqueued-there}
use Rattle.turns_state.proofs.pending.enqueue.Goals as goal

pub returns-then-not-enqueuable : goal.returns-then-not-enqueuable
returns-then-not-enqueuable c =
    let h = sym c.enqueuable.ensures ∙ c.if-not-enqueuable.true in
    record { value = sym h; block_after = not-enqueued c.args.block.now c.args.words.now h }

pub returns : goal.returns
returns c =
    let h = sym c.enqueuable.ensures ∙ c.if-not-enqueuable.false in
    record { value = sym h; block_after = c.put_last.ensures ∙ enqueued-there c.args.block.now c.args.words.now h }

pub put_last-requires : goal.put_last-requires
put_last-requires c = may-enqueue c.args.block.now (length c.args.words.now) (sym c.enqueuable.ensures ∙ c.if-not-enqueuable.false)
