-- `linerun::main` passes words for the answers that are as the definition has them. Assumes nothing.
use mathlib.Core.Path.{refl}
use Rattle.linerun_report.specs.Report.{answer_space}
use Rattle.linerun.proofs.main.Goals as goal

pub answer_input-lines-requires-clause-answers_value : goal.answer_input-lines-requires-clause-answers_value
unfolding answer_space
answer_input-lines-requires-clause-answers_value c = refl
