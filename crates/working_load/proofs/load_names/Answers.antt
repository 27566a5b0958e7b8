-- `load_names` meets its contract: the names are filled in one after the other. Assumes nothing.
use Rattle.std.proofs.Common.{arith}
use Rattle.working_load.proofs.Gathering.{names-filled}
use Rattle.working_load.proofs.load_names.Goals as goal

pub returns : goal.returns
returns c = names-filled _ _ _ _ _ c.loop-e.invariant (omega arith)
