-- What the claims about the words of calls (specs/Claims) mean for the outcome of writing, of calls and of rows, and so for code
-- that promises it (document 02, (c)).
use Rattle.std.specs.Prelude.{ℕ, ◌*◌, ◌<◌, ◌≤◌, ◌≡◌, true, false, ◌⊎◌, List, ◌∷◌, ◌++◌, length, get_or, drop}
use Rattle.machine.specs.Word.{answer_code}
use Rattle.machine.specs.Call as machine
use Rattle.machine.specs.Machine.{decide, code}
use Rattle.machine.specs.Entry.{longest_list}
use Rattle.machine.specs.Promise.{RunPromise}
use Rattle.calls.specs.declared.Call.{Call}
use Rattle.writer_theory.specs.Words.{fits, all_fit, written}
use Rattle.writer_theory.specs.Claims.{decoded_calls, read_from, of_the_four, past, all_past}
use Rattle.writer_theory.specs.Write.{too_long, WriteOutcome, words_written, writing}
use Rattle.writer_theory.specs.Rows.{rows_handed_in, rows_of, writing_rows}

-- the outcome of writing the words ws to the start of the lent ones
abbrev pub as_it_came : List ℕ → List ℕ → WriteOutcome
as_it_came ws list = record { code = 0; number = length ws; list = ws ++ drop (length ws) list }

-- Where the code is 0, decoding as many words as the answer says gives the calls that were passed.
abbrev pub WrittenReadsBack : Type 0
WrittenReadsBack =
    (cs : List Call) (count : ℕ) (list : List ℕ)
    → (writing cs count list).code ≡ 0
    → read_from (words_written (writing cs count list)) ≡ cs

-- A list that is read as calls past the four is written as it came, where there is space for it and it isn't longer than a list
-- may be.
abbrev pub WrittenAsItCame : Type 0
WrittenAsItCame =
    (ws list : List ℕ)
    → all_past (read_from ws) ≡ true
    → length ws ≤ longest_list
    → length ws ≤ length list
    → writing (read_from ws) (length (read_from ws)) list ≡ as_it_came ws list

-- A call needs at least one word: so where all calls are there, more than 4,096 of them are more than 4,096 words.
abbrev pub EachWantsAWord : Type 0
EachWantsAWord = (cs : List Call) → length cs ≤ length (written cs)

-- ---- what is refused

-- The call of the index i is the first of the calls cs that can't be written.
pub record FirstUnfit (cs : List Call) (i : ℕ) : Type 0 where
  pub before : List Call
  pub bad : Call
  pub later : List Call
  pub calls : cs ≡ before ++ (bad ∷ later)
  pub index : length before ≡ i
  pub fitting : all_fit before ≡ true
  pub unfit : fits bad ≡ false

-- What each code is for: 30 comes with the index of the first call that can't be written; then 31, with 0, where the words would
-- pass 4,096 or the lent space; 0 with the count of words written.
pub record WritingCode (cs : List Call) (count : ℕ) (list : List ℕ) (o : WriteOutcome) : Type 0 where
  pub known : (o.code ≡ 30) ⊎ (o.code ≡ 31) ⊎ (o.code ≡ 0)
  pub bad_call : o.code ≡ 30 → FirstUnfit cs o.number
  pub passes : o.code ≡ 31 → (all_fit cs ≡ true) × (too_long count (length (written cs)) (length list) ≡ true) × (o.number ≡ 0)
  pub done : o.code ≡ 0 → (all_fit cs ≡ true) × (too_long count (length (written cs)) (length list) ≡ false) × (o.number ≡ length (written cs))

abbrev pub EveryWritingCode : Type 0
EveryWritingCode = (cs : List Call) (count : ℕ) (list : List ℕ) → WritingCode cs count list (writing cs count list)

-- "Neither writes a word" (document 02 (c)): a refusal leaves all that was lent, and what is written leaves the space past it.
abbrev pub OthersLeft : Type 0
OthersLeft =
    (cs : List Call) (count : ℕ) (list : List ℕ)
    → (((writing cs count list).code ≡ 0 → ⊥) → (writing cs count list).list ≡ list)
    × ((writing cs count list).code ≡ 0 → drop (writing cs count list).number (writing cs count list).list ≡ drop (writing cs count list).number list)

-- ---- the machine

-- The four are the machine's: a call that the reader takes past them is refused by none of them, on any table; and one that it
-- doesn't take past them is refused by one of them on every table, unless by 12, which is tested before 13 and 14.
abbrev pub FourOfTheMachine : Type 0
FourOfTheMachine =
    (t : List ℕ) (c : machine.Call)
    → (past (decoded_calls c) ≡ true → of_the_four (code (decide t c)) ≡ false)
    × (past (decoded_calls c) ≡ false → (of_the_four (code (decide t c)) ≡ true) ⊎ (code (decide t c) ≡ 12))

-- No table refuses a written call by one of the four: where the code is 0, not one of the calls into which the words are split.
abbrev pub NoTableRefuses : Type 0
NoTableRefuses =
    (cs : List Call) (count : ℕ) (list : List ℕ)
    → (writing cs count list).code ≡ 0
    → (t : List ℕ) (before : List machine.Call) (c : machine.Call) (later : List machine.Call)
    → machine.split (words_written (writing cs count list)) ≡ before ++ (c ∷ later)
    → of_the_four (code (decide t c)) ≡ false

-- So where a list that was written runs, the answer to each of its calls has another code than these.
abbrev pub NoRunRefuses : Type 0
NoRunRefuses =
    (cs : List Call) (count : ℕ) (list : List ℕ)
    → (writing cs count list).code ≡ 0
    → (t space holders : List ℕ) (code calls : ℕ) (answers end kept : List ℕ)
    → RunPromise t (words_written (writing cs count list)) space holders code calls answers end kept
    → code ≡ 0
    → (calls ≡ length cs) × ((k : ℕ) → k < length cs → of_the_four (answer_code (get_or answers (3 * k) 0)) ≡ false)

-- ---- rows

-- Where the code is 0, decoding as many words as the answer says gives the calls of the rows, and the rows of these are the ones
-- that were passed.
abbrev pub RowsReadBack : Type 0
RowsReadBack =
    (rows list : List ℕ)
    → (writing_rows rows list).code ≡ 0
    → (read_from (words_written (writing_rows rows list)) ≡ rows_handed_in rows) × (rows_of (rows_handed_in rows) ≡ rows)

-- Two different lists of rows that are written never give the same words, whatever was lent for them.
abbrev pub RowsDifferentWords : Type 0
RowsDifferentWords =
    (rows others list space : List ℕ)
    → (writing_rows rows list).code ≡ 0
    → (writing_rows others space).code ≡ 0
    → words_written (writing_rows rows list) ≡ words_written (writing_rows others space)
    → rows ≡ others

-- A list that is read as calls past the four is written as it came by the rows of these calls, where there is space for it and
-- it isn't longer than a list may be. Each word of these rows has 32 bits.
abbrev pub RowsWrittenAsItCame : Type 0
RowsWrittenAsItCame =
    (ws list : List ℕ)
    → all_past (read_from ws) ≡ true
    → length ws ≤ longest_list
    → length ws ≤ length list
    → (writing_rows (rows_of (read_from ws)) list ≡ as_it_came ws list) × ((k : ℕ) → get_or (rows_of (read_from ws)) k 0 < 4294967296)
