-- All lines that `linerun` prints, as bytes (document 01, 'Into firmware and onto the bench').
use Rattle.std.specs.Prelude.{ℕ, zero, suc, ◌+◌, ◌-◌, ◌*◌, min, List, [], ◌++◌, get_or}
use Rattle.linerun_text.specs.Lines.{first_line, call_line}

-- the line of call i, whose answer is three of the words, from word 3 i on
abbrev pub line_of : List ℕ → ℕ → List ℕ
line_of answers i = call_line i (get_or answers (3 * i) 0) (get_or answers (3 * i + 1) 0) (get_or answers (3 * i + 2) 0)

-- the lines of the calls below k
unfoldable pub call_lines : List ℕ → ℕ → List ℕ
call_lines answers zero = []
call_lines answers (suc k) = call_lines answers k ++ line_of answers k

-- all lines: an entry refusal has no calls, so it has its first line only
unfoldable pub all_lines : ℕ → ℕ → List ℕ → List ℕ
all_lines calls code answers = first_line calls code ++ call_lines answers calls

-- the most bytes that the lines of so many calls have, up to 10,000 of them: at most 28 in the first line, 66 in each other
abbrev pub most_bytes : ℕ → ℕ
most_bytes calls = 28 + 66 * calls

-- Lines are written some at a time. Line 0 is the first, and line i + 1 is that of call i. This is what is printed before a line.
unfoldable pub printed_before : ℕ → ℕ → List ℕ → ℕ → List ℕ
printed_before calls code answers zero = []
printed_before calls code answers (suc i) = first_line calls code ++ call_lines answers i

-- the lines of k calls from call i on
unfoldable pub lines_from : List ℕ → ℕ → ℕ → List ℕ
lines_from answers i zero = []
lines_from answers i (suc k) = lines_from answers i k ++ line_of answers (i + k)

-- the lines from one line on and before another
unfoldable pub lines_between : ℕ → ℕ → List ℕ → ℕ → ℕ → List ℕ
lines_between calls code answers zero next = first_line calls code ++ lines_from answers 0 (next - 1)
lines_between calls code answers (suc i) next = lines_from answers i (next - suc i)

-- the most lines that a part has, and the most bytes
abbrev pub part_lines : ℕ
part_lines = 256

abbrev pub part_bytes : ℕ
part_bytes = most_bytes part_lines

-- the line before which the part from a line on ends
unfoldable pub line_after : ℕ → ℕ → ℕ
line_after calls line = min (line + part_lines) (calls + 1)

-- the part from a line on; it is empty from the line on that would follow the last
unfoldable pub part_from : ℕ → ℕ → List ℕ → ℕ → List ℕ
part_from calls code answers line = lines_between calls code answers line (line_after calls line)
