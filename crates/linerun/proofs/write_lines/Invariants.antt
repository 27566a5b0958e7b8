-- There is space for each part, and where all could be written, what was written is what is printed before the next line.
use Rattle.std.proofs.Common.{◌≡◌, ◌+◌, ◌≤◌, length}
use Rattle.std.specs.Prelude.{OnOk}
use Rattle.std.specs.Io.KnownBytes.{Appends}
use Rattle.linerun_report.specs.Cursor.{calls_of, code_of, line_of}
use Rattle.linerun_report.specs.Lines.{printed_before}
use Rattle.linerun_report.proofs.CursorLaws.{Going, lines_left}
use Rattle.linerun.proofs.write_lines.Given as goal

abbrev pub invariant-loop-out : goal.invariant-loop-out
invariant-loop-out g l =
    record {
      room : length l.out ≡ 16924;
      going : Going l.fn.first l.answers 16924 l.lines;
      within : line_of l.lines ≤ calls_of l.lines + 1;
      printed : OnOk l.written
          (Appends (g.W.Write.contents l.initial.writer) (g.W.Write.contents l.writer)
          (printed_before (calls_of l.lines) (code_of l.lines) l.answers (line_of l.lines)));
    }

abbrev pub decreases-loop-out : goal.decreases-loop-out
decreases-loop-out g l = lines_left l.lines
