-- `report` meets its contract: the lines of the endpoints and the last are those of the stage. Assumes nothing.
use native.Mathlib.Nat.{sub-zero}
use native.Mathlib.Omega.{arith}
use Rattle.text.proofs.WriteLaws.{then}
use Rattle.linetotals_text.proofs.LineLaws.{length-last_line}
use Rattle.linetotals_report.proofs.ReportLaws.{stage-lines}
use Rattle.linetotals_report.proofs.report.Goals as goal

pub returns-clause-writes : goal.returns-clause-writes
returns-clause-writes c =
    let waits = rw (sub-zero c.min-words.result) at c.waiting_counts-end.ensures in
    let all = stage-lines c.args.stage c.args.table.now c.counts-counts.ensures c.min-words.ensures waits c.min-m.ensures in
    rw (← all, ← c.code.ensures) (then c.endpoint_lines-at.ensures.writes c.last_line.ensures)

pub returns-clause-upper_bound : goal.returns-clause-upper_bound
returns-clause-upper_bound c =
    let said = c.counts-counts.result in
    omega (arith, c.last_line.ensures.place, length-last_line said.count c.code.result (omega arith) (omega arith))
