-- `replace` meets its contract: the words passed are the new ones, and the pairs of those that differ are in the list.
-- Assumes nothing.
use Rattle.repair.proofs.Passes.{Replacing}
use Rattle.repair.proofs.replace.Given as goal

abbrev pub invariant-loop-i : goal.invariant-loop-i
invariant-loop-i l = Replacing l.initial.table l.new l.initial.list l.table l.list l.at l.i
