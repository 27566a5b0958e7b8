-- Each read is a step of the stage, there are ever fewer left, and the bytes of the stage are what the reader gave. Assumes nothing.
use Rattle.std.proofs.Common.{take}
use Rattle.std.specs.Io.KnownBytes.{Consumes}
use Rattle.linerun_input.specs.Stage.{have_of}
use Rattle.linerun_input.proofs.StageLaws.{Reached, steps_left}
use Rattle.linerun_input.proofs.reading.read_input.Given as goal

abbrev pub invariant-loop-have : goal.invariant-loop-have
invariant-loop-have g l =
    record {
      reached : Reached l.buffer l.input;
      given : Consumes (g.R.Read.remaining l.initial.reader) (g.R.Read.remaining l.reader) (take (have_of l.input) l.buffer);
    }

abbrev pub decreases-loop-have : goal.decreases-loop-have
decreases-loop-have g l = steps_left l.input
