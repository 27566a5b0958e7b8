-- After e iterations the lines of the endpoints below e are written.
use Rattle.std.proofs.Common.{◌*◌, ◌≤◌}
use Rattle.text.specs.Write.{Writes}
use Rattle.linetotals_report.specs.Report.{counts_lines}
use Rattle.linetotals_report.proofs.lines.endpoint_lines.Given as goal

abbrev pub invariant-loop-e : goal.invariant-loop-e
invariant-loop-e l =
    record {
      written : Writes 0 (counts_lines l.tally.sent l.tally.received l.tally.lost l.start l.end l.e) l.initial.out l.at l.out;
      few : l.at ≤ 146 * l.e;
    }
