-- `load_owned` meets its contract: the bits are set one after the other. Assumes nothing.
use Rattle.std.proofs.Common.{◌%◌}
use Rattle.working_load.proofs.Gathering.{Gathered}
use Rattle.working_load.proofs.load_owned.Given as goal

abbrev pub invariant-loop-e : goal.invariant-loop-e
invariant-loop-e l = Gathered (l.n % 256) l.table l.owned l.e
