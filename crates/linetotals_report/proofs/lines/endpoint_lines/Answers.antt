-- After e iterations the lines of the endpoints below e are written.
use Rattle.std.proofs.Common.{get_or, arith}
use Rattle.text.proofs.WriteLaws.{writes_nothing}
use Rattle.linetotals_text.proofs.LineLaws.{length-endpoint_line}
use Rattle.linetotals_report.specs.Report.{counts_line, counts_lines}
use Rattle.linetotals_report.proofs.LineLaws.{next-line}
use Rattle.linetotals_report.proofs.lines.endpoint_lines.Goals as goal

pub loop-e-init : goal.loop-e-init
unfolding counts_lines
loop-e-init c = record { written = writes_nothing 0 _ (omega arith); few = omega arith }

pub loop-e-preserved : goal.loop-e-preserved
unfolding counts_line
loop-e-preserved c =
    let e = c.loop-e.e in
    let tally = c.args.tally.now in
    let line = c.endpoint_line-at.ensures in
    record {
      written = next-line _ _ _ _ _ e c.loop-e.invariant.written line;
      few =
          omega (
            arith,
            line.place,
            length-endpoint_line e (get_or tally.sent e 0) (get_or tally.received e 0) (get_or tally.lost e 0) (get_or c.args.start.now e 0)
                (get_or c.args.end.now e 0) (omega arith) (omega arith) (omega arith) (omega arith) (omega arith) (omega arith),
          );
    }
