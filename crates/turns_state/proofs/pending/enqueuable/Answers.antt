-- `enqueuable` is the specification's `enqueuable`. Assumes nothing.
use borrow.Author.Tests.{eq-eqb, ne_eqb}
use Rattle.turns_state.specs.Pending.{enqueuable}
use Rattle.turns_state.proofs.Laws.{room-left}
use Rattle.turns_state.proofs.pending.enqueuable.Goals as goal

-- words that aren't seventeen
pub returns-then-block-ne17 : goal.returns-then-block-ne17
unfolding enqueuable
returns-then-block-ne17 c = rw (ne_eqb _ _ c.if-block-ne17.true)

pub returns : goal.returns
unfolding enqueuable
returns c = rw (eq-eqb _ _ c.if-block-ne17.false) (room-left _ _ _ c.count-pending.ensures.value)
