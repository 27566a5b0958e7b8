-- `load_rings` meets its contract: the rings are loaded one after the other. Assumes nothing.
use Rattle.std.proofs.Common.{◌%◌, length}
use Rattle.working_load.proofs.Places.{HasQueues}
use Rattle.working_load.proofs.LoadLoop.{Taking}
use Rattle.working_load.proofs.load_rings.Given as goal

abbrev pub invariant-loop-e : goal.invariant-loop-e
invariant-loop-e l = Taking (l.n % 256) l.m l.table l.rings l.e × HasQueues (l.n % 256) l.m (length l.table) (length l.initial.rings)
