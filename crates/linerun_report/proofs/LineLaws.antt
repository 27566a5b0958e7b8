-- Lines that are written some at a time: what an iteration of the loop that writes them adds, and that the lines from one line on
-- continue what is printed before it. Assumes nothing.
use Prim.Native.Nat.{ℕ, zero, suc, ◌+◌, ◌-◌, ◌<◌}
use mathlib.Core.Path.{◌≡◌, sym, ap, ◌∙◌}
use mathlib.Core.List.{List, ◌++◌, append_assoc, append-nil}
use native.Mathlib.Omega.{arith}
use Rattle.text.specs.Write.{Writes}
use Rattle.text.proofs.WriteLaws.{then}
use Rattle.linerun_text.specs.Lines.{first_line}
use Rattle.linerun_report.specs.Lines.{line_of, call_lines, all_lines, printed_before, lines_from, lines_between}

-- an iteration: the next call's line after the lines of those before it
pub next-line : {at : ℕ} (answers : List ℕ) (from k : ℕ) {buffer : List ℕ} {here : ℕ} {left : List ℕ} {next : ℕ} {left' : List ℕ}
    → Writes at (lines_from answers from k) buffer here left
    → Writes here (line_of answers (from + k)) left next left'
    → Writes at (lines_from answers from (k + 1)) buffer next left'
unfolding lines_from
next-line answers from k w v =
    let one_more : k + 1 ≡ suc k = omega arith in
    rw one_more (then w v)

pub at-number : (f : ℕ → List ℕ) (a b : ℕ) → a ≡ b → f a ≡ f b
at-number f a b e = ap f e

-- the lines of some calls and of those that follow
calls-join : (answers : List ℕ) (i k : ℕ) → call_lines answers i ++ lines_from answers i k ≡ call_lines answers (i + k)
unfolding call_lines lines_from
calls-join answers i zero = append-nil (call_lines answers i) ∙ at-number (call_lines answers) i (i + 0) (omega arith)
calls-join answers i (suc k) =
    sym (append_assoc (call_lines answers i) (lines_from answers i k) (line_of answers (i + k)))
    ∙ ap (λ l. l ++ line_of answers (i + k)) (calls-join answers i k)
    ∙ at-number (call_lines answers) (suc (i + k)) (i + suc k) (omega arith)

from_first : (answers : List ℕ) (k : ℕ) → lines_from answers 0 k ≡ call_lines answers k
unfolding call_lines
from_first answers k = calls-join answers 0 k ∙ at-number (call_lines answers) (0 + k) k (omega arith)

-- what is printed before a line, and the lines from there on
pub lines_join : (calls code : ℕ) (answers : List ℕ) (line next : ℕ) → line < next
    → printed_before calls code answers line ++ lines_between calls code answers line next ≡ printed_before calls code answers next
unfolding printed_before lines_between
lines_join calls code answers line zero h = absurd (omega arith)
lines_join calls code answers zero (suc n) h =
    ap (λ l. first_line calls code ++ l) (from_first answers (suc n - 1) ∙ at-number (call_lines answers) (suc n - 1) n (omega arith))
lines_join calls code answers (suc i) (suc n) h =
    append_assoc (first_line calls code) (call_lines answers i) (lines_from answers i (suc n - suc i))
    ∙ ap (λ l. first_line calls code ++ l) (calls-join answers i (suc n - suc i) ∙ at-number (call_lines answers) (i + (suc n - suc i)) n (omega arith))

-- all lines are what is printed before the line that would follow the last
pub all-printed : (calls code : ℕ) (answers : List ℕ) → all_lines calls code answers ≡ printed_before calls code answers (calls + 1)
unfolding all_lines printed_before
all-printed calls code answers = at-number (printed_before calls code answers) (suc calls) (calls + 1) (omega arith)
