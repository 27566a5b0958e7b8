-- Before each iteration the lines of the calls before its are written, and the words that are left are those of its call and later ones.
use Rattle.std.proofs.Common.{◌+◌, ◌-◌, ◌*◌, ◌≤◌, ◌≡◌, length, take, drop}
use Rattle.std.specs.Iterator.Adapters.{zip_first, zip_second}
use Rattle.std.specs.Slice.Iter.{chunks_exact_rest, chunks_exact_size}
use Rattle.text.specs.Write.{Writes}
use Rattle.linerun_report.specs.Lines.{lines_from}
use Rattle.linerun_report.proofs.parts.call_lines.Given as goal

abbrev pub invariant-loop-i : goal.invariant-loop-i
invariant-loop-i l =
    record {
      next : (zip_first l.i-iterator).start ≡ l.from + length l.yielded;
      size : chunks_exact_size (zip_second l.i-iterator) ≡ 3;
      left : chunks_exact_rest (zip_second l.i-iterator) ≡ drop (3 * length l.yielded) (take (3 * l.to - 3 * l.from) (drop (3 * l.from) l.answers));
      writes : Writes l.start (lines_from l.answers l.from (length l.yielded)) l.initial.out l.at l.out;
      few : l.at ≤ l.start + 66 * length l.yielded;
    }
