-- `dequeuable` is the specification's `dequeuable`. Assumes nothing.
use mathlib.Core.Path.{ap}
use borrow.Author.Tests.{eq-eqb, ne_eqb}
use lib.Dec.{leb}
use Rattle.turns_state.specs.Pending.{dequeuable}
use Rattle.turns_state.proofs.pending.dequeuable.Goals as goal

-- words that aren't seventeen
pub returns-then-block-ne17 : goal.returns-then-block-ne17
unfolding dequeuable
returns-then-block-ne17 c = rw (ne_eqb _ _ c.if-block-ne17.true)

pub returns : goal.returns
unfolding dequeuable
returns c = rw (eq-eqb _ _ c.if-block-ne17.false) (ap (leb c.args.few) c.count-pending.ensures.value)
