-- `linetotals` as one definition: from the bytes read to the bytes written (document 02 (e), end-of-shift totals: the sheet).
use Rattle.std.specs.Prelude.{ℕ, zero, suc, ◌*◌, ◌<◌, ◌≡◌, false, cond, List, [], ◌∷◌, ◌++◌, eqb, length}
use Rattle.machine.specs.Table.{domains, endpoints, endpoint}
use Rattle.machine.specs.Queue.{waiting}
use Rattle.machine.specs.Check.{table_code, Accepted}
use Rattle.machine.specs.Call.{split}
use Rattle.machine.specs.Run.{run}
use Rattle.machine.specs.Entry.{Runs}
use Rattle.input_words.specs.TableInput.{no_table, table_of}
use Rattle.totals_theory.specs.Totals.{totals, table_after_lists}
use Rattle.totals_theory.specs.Claims.{SheetConserved}
use Rattle.linetotals_text.specs.Lines.{endpoint_line, last_line}
use Rattle.linetotals_input.specs.Input.{Lists, lists_of, wanted}

-- the line of endpoint e over lists that are run from the table t
unfoldable pub totals_line : List ℕ → List (List ℕ) → ℕ → List ℕ
totals_line t lists e =
    let counted = totals e t lists in
    let start = waiting (endpoint t e) in
    let end = waiting (endpoint (table_after_lists t lists) e) in
    endpoint_line e counted.sent counted.received counted.lost start end

-- the lines of the endpoints below k, lowest index first
unfoldable pub endpoint_lines : List ℕ → List (List ℕ) → ℕ → List ℕ
endpoint_lines t lists zero = []
endpoint_lines t lists (suc k) = endpoint_lines t lists k ++ totals_line t lists k

-- all lines of lists that are run from the table t and end with a code
unfoldable pub totals_lines : List ℕ → List (List ℕ) → ℕ → List ℕ
totals_lines t lists code = endpoint_lines t lists (endpoints t) ++ last_line (length lists) code

-- the lines of a table and what follows it: a refused table has the last line only, whatever lists there are
unfoldable pub table_sheet : List ℕ → Lists → List ℕ
table_sheet t given =
    let all = totals_lines t given.lists given.code in
    cond (eqb (table_code t) 0) all (last_line 0 (table_code t))

-- what is printed for these bytes
unfoldable pub sheet : List ℕ → List ℕ
sheet bytes =
    let all = table_sheet (table_of bytes) (lists_of bytes) in
    cond (no_table bytes) (last_line 0 7) all

-- Where no further byte is wanted, what follows changes nothing.
abbrev pub NothingFollows : Type 0
NothingFollows = (bytes more : List ℕ) → wanted bytes ≡ 0 → sheet (bytes ++ more) ≡ sheet bytes

-- What is printed for an accepted table: the lines of the totals over the lists that the bytes give, which are those of all calls as
-- one list, and at each endpoint sends plus waiting at the start are received plus lost plus waiting at the end.
pub record PrintedConserved (bytes : List ℕ) : Type 0 where
  pub lines : sheet bytes ≡ totals_lines (table_of bytes) (lists_of bytes).lists (lists_of bytes).code
  pub conserved : (e : ℕ) → e < endpoints (table_of bytes)
      → SheetConserved e (table_of bytes) (lists_of bytes).lists (table_after_lists (table_of bytes) (lists_of bytes).lists)

abbrev pub EveryPrintedConserved : Type 0
EveryPrintedConserved = (bytes : List ℕ) → no_table bytes ≡ false → Accepted (table_of bytes) → PrintedConserved bytes

-- No entry refuses a list from the table t, with three answer words for each word of the list and one word for each domain.
abbrev pub RunsFrom : List ℕ → List ℕ → Type 0
RunsFrom t ws = Runs t ws (3 * length ws) (domains t)

-- The first list runs from the table t, each later one from the table that the one before left.
abbrev pub AllRun : List ℕ → List (List ℕ) → Type 0
AllRun t [] = Unit {0}
AllRun t (ws ∷ lists) = RunsFrom t ws × AllRun (run t (split ws)) lists

-- From an accepted table all lists that are counted run so.
abbrev pub EveryListRuns : Type 0
EveryListRuns = (bytes : List ℕ) → Accepted (table_of bytes) → AllRun (table_of bytes) (lists_of bytes).lists
