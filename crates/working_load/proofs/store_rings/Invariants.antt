-- `store_rings` meets its contract: the rings are stored one after the other. Assumes nothing.
use Rattle.std.proofs.Common.{◌%◌, length}
use Rattle.working_load.proofs.Places.{HasQueues}
use Rattle.working_load.proofs.StoreLoop.{Out}
use Rattle.working_load.proofs.store_rings.Given as goal

abbrev pub invariant-loop-e : goal.invariant-loop-e
invariant-loop-e l = Out (l.n % 256) l.m l.rings l.initial.table l.table l.e × HasQueues (l.n % 256) l.m (length l.initial.table) (length l.rings)
