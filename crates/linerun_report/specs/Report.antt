-- `linerun` as one definition: from the bytes read to the bytes written (document 01, 'Into firmware and onto the bench').
use Rattle.std.specs.Prelude.{ℕ, ◌*◌, ◌<◌, ◌≤◌, min, ◌≡◌, Bool, true, false, cond, List, [], ◌++◌, length, replicate}
use Rattle.machine.specs.Table.{domains}
use Rattle.machine.specs.Entry.{Outcome, refusal, entry, longest_list}
use Rattle.input_words.specs.Bytes.{bytes_of, AllWords}
use Rattle.input_words.specs.TableInput.{longest_table, table_length, table_end, no_table, table_of, after_table, with_length, TableWords}
use Rattle.linerun_input.specs.Input.{list_words_read, list_of, unreadable, wanted}
use Rattle.linerun_text.specs.Lines.{first_line}
use Rattle.linerun_report.specs.Lines.{all_lines}

-- an answer space that is never too small: three words for each call of the longest list
unfoldable pub answer_space : List ℕ
answer_space = replicate (3 * longest_list) 0

-- words for the holders that are never too few: one for each domain of the table, up to the sixteen that one may have
unfoldable pub holders_space : List ℕ → List ℕ
holders_space t = replicate (min (domains t) 16) 0

-- the lines of a run's outcome
unfoldable pub outcome_lines : Outcome → List ℕ
outcome_lines o = all_lines o.calls o.code o.answers

-- What is answered to these bytes, with these words lent for the answers: the program's own code 7 where it refuses them, which
-- leaves every lent word, else what the entry answers for their list on their table, with every lent word as it leaves it.
unfoldable pub answered : List ℕ → List ℕ → Outcome
answered bytes space =
    cond (unreadable bytes) (refusal 7 [] space [])
    (entry (table_of bytes) (list_of bytes) space (holders_space (table_of bytes)))

-- what is printed for these bytes
unfoldable pub report : List ℕ → List ℕ
report bytes = outcome_lines (answered bytes answer_space)

-- Any lent words that are as many give the same report, zeroed or not: no line shows what was in them before.
abbrev pub EverySpace : Type 0
EverySpace = (bytes space : List ℕ) → 3 * longest_list ≤ length space → outcome_lines (answered bytes space) ≡ report bytes

-- Where no further byte is wanted, what follows changes nothing.
abbrev pub NothingFollows : Type 0
NothingFollows = (bytes more : List ℕ) → wanted bytes ≡ 0 → report (bytes ++ more) ≡ report bytes

-- A table and a list that isn't longer than a list may be, as little-endian words: what is printed are the lines of what the entry
-- answers for them.
abbrev pub EveryWordsReported : Type 0
EveryWordsReported = (t ws : List ℕ) → TableWords t → AllWords ws → length ws ≤ longest_list
    → report (with_length t ++ bytes_of ws) ≡ outcome_lines (entry t ws answer_space (holders_space t))

-- After a whole list word 4,097 no more is wanted, and what is printed is the first line with code 1 alone, whatever is wrong with
-- the table and whatever follows.
pub record StopsByOne (bytes : List ℕ) : Type 0 where
  pub stops : wanted bytes ≡ 0
  pub one : (more : List ℕ) → report (bytes ++ more) ≡ first_line 0 1

abbrev pub EveryLongListStops : Type 0
EveryLongListStops = (bytes : List ℕ) → no_table bytes ≡ false → 4 * list_words_read ≤ length (after_table bytes) → StopsByOne bytes

-- `linerun` refuses by 7 an input under 4 bytes, one whose first word is above 641, and one in which fewer words than that follow.
pub record SevenByTable (bytes : List ℕ) : Type 0 where
  pub no_word : length bytes < 4 → report bytes ≡ first_line 0 7
  pub long_table : 4 ≤ length bytes → longest_table < table_length bytes → report bytes ≡ first_line 0 7
  pub cut_table : 4 ≤ length bytes → length bytes < table_end bytes → report bytes ≡ first_line 0 7

-- Besides these, bytes that are left after the last whole word of a list that isn't longer than a list may be.
abbrev pub EverySeven : Type 0
EverySeven =
    ((bytes : List ℕ) → SevenByTable bytes)
    × ((t ws tail : List ℕ) → TableWords t → length ws ≤ longest_list → 0 < length tail → length tail < 4
    → report (with_length t ++ (bytes_of ws ++ tail)) ≡ first_line 0 7)

-- What is refused prints the first line alone, with its code and no calls.
abbrev pub EveryRefusedAlone : Type 0
EveryRefusedAlone = (bytes : List ℕ) → 0 < (answered bytes answer_space).code → report bytes ≡ first_line 0 (answered bytes answer_space).code

-- Code 6 never comes.
abbrev pub NeverSix : Type 0
NeverSix = (t ws : List ℕ) → (entry t ws answer_space (holders_space t)).code ≡ 6 → ⊥

-- what may follow the bytes read in the input: nothing where it ended after them, anything where it did not
abbrev pub Follows : Bool → List ℕ → Type 0
Follows ended more = ended ≡ true → more ≡ []
