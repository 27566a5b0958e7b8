-- `linerun::answer_input` meets its contract: the lines of the cursor that it returns are the report. Assumes nothing.
use Rattle.std.proofs.Common.{take}
use Rattle.linerun_input.specs.Stage.{have_of, ended_of}
use Rattle.linerun_input.proofs.StageLaws.{all_read}
use Rattle.linerun_report.proofs.ReportLaws.{prints}
use Rattle.linerun.proofs.answer_input.Goals as goal

pub returns : goal.returns
returns c =
    let input = c.args.input in
    let bytes = take (have_of input) c.args.buffer.now in
    let answered = rw (c.have.ensures, c.requires.answers_value) at c.answer.ensures in
    prints bytes (ended_of input) (all_read c.requires.stage_after.0 c.requires.stage_after.1) answered.value answered.answers_after
