-- The lines of the endpoints, one after another. Assumes nothing.
use Prim.Native.Nat.{ℕ, ◌+◌}
use mathlib.Core.List.{List}
use native.Mathlib.Numerals.{add-one}
use Rattle.text.specs.Write.{Writes}
use Rattle.text.proofs.WriteLaws.{then}
use Rattle.linetotals_report.specs.Report.{counts_line, counts_lines}

-- the line of one endpoint more
pub next-line : (sent received lost start end : List ℕ) (k : ℕ) {at : ℕ} {buffer : List ℕ} {next : ℕ} {left : List ℕ} {next' : ℕ} {left' : List ℕ}
    → Writes at (counts_lines sent received lost start end k) buffer next left → Writes next (counts_line sent received lost start end k) left next' left'
    → Writes at (counts_lines sent received lost start end (k + 1)) buffer next' left'
unfolding counts_lines
next-line sent received lost start end k x y = rw (add-one k) (then x y)
