-- A round that adds nobody ends the loop, and so do as many rounds as there are words.
use mathlib.Core.Path.{sym, ◌∙◌}
use Rattle.reachability.proofs.Loops.{closing-start, closing-still, closing-next, closing_end}
use Rattle.reachability.proofs.closure.Goals as goal

pub loop-round-init : goal.loop-round-init
loop-round-init c = closing-start _ _

pub returns-then-wider-reached : goal.returns-then-wider-reached
returns-then-wider-reached c = closing-still _ _ _ _ c.loop-round.invariant (sym c.widen-wider.ensures ∙ c.if-wider-reached.true)

pub loop-round-preserved : goal.loop-round-preserved
loop-round-preserved c =
    rw c.widen-wider.ensures
    (closing-next _ _ _ _ c.loop-round.invariant c.loop-round-test.true)

pub returns : goal.returns
returns c = closing_end _ _ _ _ c.loop-round.invariant c.loop-round-test.false
