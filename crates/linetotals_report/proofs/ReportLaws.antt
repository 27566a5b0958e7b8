-- The lines after a stage, by what was computed for them. Assumes nothing.
use Prim.Native.Nat.{ℕ, min}
use mathlib.Core.Path.{◌≡◌, ap, ◌∙◌}
use mathlib.Core.List.{List, ◌++◌}
use lib.ListN.{length, take}
use Rattle.linetotals_text.specs.Lines.{last_line}
use Rattle.linetotals_run.specs.declared.Stage.{Stage}
use Rattle.linetotals_run.specs.declared.Counts.{Counts}
use Rattle.linetotals_run.specs.Stage.{counts_at, code_at}
use Rattle.linetotals_run.specs.Step.{waiting_at}
use Rattle.linetotals_run.proofs.StepLaws.{take-least}
use Rattle.linetotals_report.specs.Report.{counts_lines, stage_lines}

pub stage-lines : (s : Stage) (table : List ℕ) {said : Counts} {k m : ℕ} {end : List ℕ} → said ≡ counts_at s → k ≡ min said.words (length table)
    → end ≡ waiting_at (take k table) → m ≡ min said.endpoints 32
    → counts_lines said.tally.sent said.tally.received said.tally.lost said.start end m ++ last_line said.count (code_at s)
    ≡ stage_lines s table
unfolding stage_lines
stage-lines s table {said} {k} is k-is end_is m-is =
    let words = end_is ∙ ap waiting_at (take-least k said.words table k-is) in
    rw (words, m-is, is)
