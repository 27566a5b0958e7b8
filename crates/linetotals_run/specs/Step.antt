-- The step from a stage and the bytes that were read for it to the next stage, with the lent words (document 02 (e), end-of-shift
-- totals). It is total: it says what becomes of every stage, whatever the lent words are.
use Rattle.std.specs.Prelude.{Option, None, Some, Result, Ok, Err, ℕ, ◌+◌, ◌-◌, ◌*◌, ◌≡◌, Bool, true, cond, ◌&&◌, List, ◌++◌, eqb, ltb, leb, length, take, drop}
use Rattle.machine.specs.Below.{words_below}
use Rattle.machine.specs.Table.{domains, endpoints, endpoint}
use Rattle.machine.specs.Queue.{waiting}
use Rattle.machine.specs.Check.{table_code}
use Rattle.machine.specs.Entry.{Outcome, entry}
use Rattle.text.specs.Write.{overwrite}
use Rattle.input_words.specs.Bytes.{word_at, words_of}
use Rattle.input_words.specs.TableInput.{longest_table}
use Rattle.totals_theory.specs.Totals.{list_totals}
use Rattle.totals_add.specs.declared.Tally.{Tally}
use Rattle.totals_add.specs.Added.{no_totals, added_below}
use Rattle.linetotals_input.specs.Input.{most_lists}
use Rattle.linetotals_input.specs.Next.{list_refusal_code, next_of}
use Rattle.linetotals_input.specs.declared.ListRefusal.{ListRefusal}
use Rattle.linetotals_run.specs.declared.Phase.{Phase}
use Rattle.linetotals_run.specs.declared.Phase.TheVariants.{TableLength, TableWords, FirstLength, ListWords, Over}
use Rattle.linetotals_run.specs.declared.ReadRefusal.{ReadRefusal}
use Rattle.linetotals_run.specs.declared.Stage.{Stage}
use Rattle.linetotals_run.specs.Stage.{wanted_at, in_phase, read_refusal_code}

-- a stage, and the words that are lent: space for the table, for a list, for its answers and for the holders
pub record State : Type 0 where
  pub stage : Stage
  pub table : List ℕ
  pub list : List ℕ
  pub answers : List ℕ
  pub holders : List ℕ

-- the same lent words with another stage
abbrev pub at_stage : State → Stage → State
at_stage x s = record x { stage = s }

-- the stage after a reading: a refusal ends it with its code
abbrev pub next_or_over : Stage → Result Stage ReadRefusal → Stage
next_or_over s (Ok next) = next
next_or_over s (Err r) = in_phase (Over (read_refusal_code r)) s

-- ---- the table

-- after the table's length word: 7 where it is cut short or above the longest table's, 2 for an empty table, else its words follow
unfoldable pub length_read : Stage → List ℕ → Stage
length_read s bytes =
    let n = word_at bytes 0 in
    in_phase
    (cond (ltb (length bytes) 4) (Over 7) (cond (ltb longest_table n) (Over 7) (cond (eqb n 0) (Over 2) (TableWords n))))
    s

-- how many messages wait at each endpoint of a table
abbrev pub waiting_at : List ℕ → List ℕ
waiting_at t = words_below 32 (λ e. waiting (endpoint t e))

-- the stage after an accepted table t, before any list
abbrev pub lists_follow : List ℕ → Stage
lists_follow t =
    record {
      phase = FirstLength;
      counts = record { words = length t; endpoints = endpoints t; count = 0; start = waiting_at t; tally = no_totals };
    }

-- after the table t: its code where it is refused, else the lists follow
unfoldable pub table_checked : Stage → List ℕ → Stage
table_checked s t =
    cond (eqb (table_code t) 0) (lists_follow t) (in_phase (Over (table_code t)) s)

-- after the table's n words: 7 where they are cut short
unfoldable pub table_read : ℕ → Stage → List ℕ → Stage
table_read n s bytes = cond (ltb (length bytes) (4 * n)) (in_phase (Over 7) s) (table_checked s (words_of (take (4 * n) bytes)))

-- they are stored at the front of the space for a table, unless they are cut short
unfoldable pub table_stored : ℕ → List ℕ → List ℕ → List ℕ
table_stored n bytes table = cond (ltb (length bytes) (4 * n)) table (overwrite 0 (words_of (take (4 * n) bytes)) table)

-- ---- the lists

-- by the bytes before a list, the lists end with a code, or a list follows
abbrev pub next_phase : Result (Option ℕ) ListRefusal → Phase
next_phase (Ok None) = Over 0
next_phase (Ok (Some n)) = ListWords n
next_phase (Err r) = Over (list_refusal_code r)

-- after the bytes before a list
unfoldable pub head_read : Stage → List ℕ → Stage
head_read s head = in_phase (next_phase (next_of (most_lists - s.counts.count) head)) s

-- a tally with what the list ws counts, run from the table t
unfoldable pub tally_with : List ℕ → List ℕ → Tally → Tally
tally_with t ws tally =
    record {
      sent = added_below (endpoints t) tally.sent (λ e. (list_totals e t ws).sent);
      received = added_below (endpoints t) tally.received (λ e. (list_totals e t ws).received);
      lost = added_below (endpoints t) tally.lost (λ e. (list_totals e t ws).lost);
    }

-- a stage with one list more that ran, and the tally with it
unfoldable pub counted : Stage → Tally → Stage
counted s tally = record s { counts = record s.counts { count = s.counts.count + 1; tally = tally } }

-- after a list that the entry gave a code: a refused one ends the lists with its code, and counts nothing; one that ran is counted,
-- and the bytes before the next list are looked at
unfoldable pub list_ran : Stage → ℕ → Tally → List ℕ → Stage
list_ran s code tally head = cond (eqb code 0) (head_read (counted s tally) head) (in_phase (Over code) s)

-- the table of a state, and what the entry makes of the list ws from it: a word for each domain is lent for the holders, as far as
-- there are
abbrev pub table_at : State → List ℕ
table_at x = take x.stage.counts.words x.table

abbrev pub entered : State → List ℕ → Outcome
entered x ws = entry (table_at x) ws x.answers (take (domains (table_at x)) x.holders)

-- after a list of n words, with the bytes before the next list after it: the list is run
unfoldable pub list_whole : ℕ → State → List ℕ → State
list_whole n x bytes =
    let ws = words_of (take (4 * n) bytes) in
    let o = entered x ws in
    record {
      stage = list_ran x.stage o.code (tally_with (table_at x) ws x.stage.counts.tally) (drop (4 * n) bytes);
      table = o.table ++ drop x.stage.counts.words x.table;
      list = overwrite 0 ws x.list;
      answers = o.answers;
      holders = o.holders ++ drop (domains (table_at x)) x.holders;
    }

-- the same of any bytes: 7 where the list is cut short, which leaves the lent words
unfoldable pub list_read : ℕ → State → List ℕ → State
list_read n x bytes = cond (ltb (length bytes) (4 * n)) (at_stage x (in_phase (Over 7) x.stage)) (list_whole n x bytes)

-- ---- any stage

-- after the bytes that a state's stage wanted, or fewer where the input ended
abbrev pub phase_read : Phase → State → List ℕ → State
phase_read TableLength x bytes = at_stage x (length_read x.stage bytes)
phase_read (TableWords n) x bytes =
    record x { stage = table_read n x.stage bytes; table = table_stored n bytes x.table }
phase_read FirstLength x bytes = at_stage x (head_read x.stage bytes)
phase_read (ListWords n) x bytes = list_read n x bytes
phase_read (Over code) x bytes = x

unfoldable pub stepped : State → List ℕ → State
stepped x bytes = phase_read x.stage.phase x bytes

-- whether there is space for a table of n words or for a list of n words with a table of `words`, and one list more may come
abbrev pub phase_fits : Phase → ℕ → ℕ → List ℕ → List ℕ → Bool
phase_fits TableLength words count table list = true
phase_fits (TableWords n) words count table list = leb n (length table)
phase_fits FirstLength words count table list = true
phase_fits (ListWords n) words count table list = leb words (length table) && leb n (length list) && ltb count most_lists
phase_fits (Over code) words count table list = true

-- a stage takes a reading of `want` bytes, `count` of which came into the input, where it wanted so many and there is space
unfoldable pub takes : Stage → ℕ → ℕ → List ℕ → List ℕ → List ℕ → Bool
takes s want count input table list =
    eqb want (wanted_at s) && leb count (length input) && phase_fits s.phase s.counts.words s.counts.count table list

-- the step of every stage: a reading that it doesn't take leaves everything as it is
unfoldable pub step_on : State → ℕ → ℕ → List ℕ → State
step_on x want count input = cond (takes x.stage want count input x.table x.list) (stepped x (take count input)) x

-- the state that was left is this one
pub record Left (x : State) (stage : Stage) (table list answers holders : List ℕ) : Type 0 where
  pub stage_is : stage ≡ x.stage
  pub table_is : table ≡ x.table
  pub list_is : list ≡ x.list
  pub answers_are : answers ≡ x.answers
  pub holders_are : holders ≡ x.holders
