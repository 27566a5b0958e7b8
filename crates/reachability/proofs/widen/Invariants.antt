-- Each iteration joins a word where its domain is a member.
use Rattle.reachability.proofs.Loops.{Widening}
use Rattle.reachability.proofs.widen.Given as goal

abbrev pub invariant-loop-word : goal.invariant-loop-word
invariant-loop-word l = Widening l.words l.set l.wide l.members l.word-index
