-- What is printed after a stage of the reading (document 02 (e), end-of-shift totals): the lines of what was counted.
use Rattle.std.specs.Prelude.{ℕ, zero, suc, min, List, [], ◌++◌, get_or, take}
use Rattle.linetotals_text.specs.Lines.{endpoint_line, last_line}
use Rattle.linetotals_run.specs.declared.Stage.{Stage}
use Rattle.linetotals_run.specs.Stage.{counts_at, code_at}
use Rattle.linetotals_run.specs.Step.{waiting_at}

-- the most bytes that a sheet has: at most 146 in the line of each of 32 endpoints, 43 in the last
abbrev pub most_bytes : ℕ
most_bytes = 4715

-- the line of endpoint e, by the words of what was counted and of what waited
unfoldable pub counts_line : List ℕ → List ℕ → List ℕ → List ℕ → List ℕ → ℕ → List ℕ
counts_line sent received lost start end e =
    endpoint_line e (get_or sent e 0) (get_or received e 0) (get_or lost e 0) (get_or start e 0) (get_or end e 0)

-- the lines of the endpoints below k
unfoldable pub counts_lines : List ℕ → List ℕ → List ℕ → List ℕ → List ℕ → ℕ → List ℕ
counts_lines sent received lost start end zero = []
counts_lines sent received lost start end (suc k) =
    counts_lines sent received lost start end k ++ counts_line sent received lost start end k

-- what is printed after a stage, where the lists left the table at the front of these words
unfoldable pub stage_lines : Stage → List ℕ → List ℕ
stage_lines s table =
    let said = counts_at s in
    counts_lines said.tally.sent said.tally.received said.tally.lost said.start (waiting_at (take said.words table))
    (min said.endpoints 32)
    ++ last_line said.count (code_at s)
