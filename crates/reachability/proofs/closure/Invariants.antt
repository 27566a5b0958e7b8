-- A round that adds nobody ends the loop, and so do as many rounds as there are words.
use Rattle.reachability.proofs.Loops.{Closing}
use Rattle.reachability.proofs.closure.Given as goal

abbrev pub invariant-loop-round : goal.invariant-loop-round
invariant-loop-round l = Closing l.words l.set l.reached l._round
