-- What is claimed of linetotals' input and of what is printed for it (document 02 (e), end-of-shift totals): an input of a table and
-- lists gives just these, what refuses a table or a list, and that nothing after a refusal matters.
use Rattle.std.specs.Prelude.{ℕ, ◌+◌, ◌*◌, ◌<◌, ◌≤◌, ◌≡◌, true, false, ◌⊎◌, List, [], ◌∷◌, ◌++◌, length}
use Rattle.machine.specs.Check.{table_code, Accepted}
use Rattle.machine.specs.Entry.{longest_list}
use Rattle.input_words.specs.Bytes.{word_at, AllWords}
use Rattle.input_words.specs.TableInput.{longest_table, table_length, no_table, table_of, with_length, TableWords}
use Rattle.linetotals_text.specs.Lines.{last_line}
use Rattle.linetotals_input.specs.Input.{most_lists, lists_of}
use Rattle.linetotals_theory.specs.Sheet.{totals_lines, sheet}

-- ---- an input of a table and lists

-- the bytes of lists, each with its length before it
unfoldable pub lists_bytes : List (List ℕ) → List ℕ
lists_bytes [] = []
lists_bytes (ws ∷ lists) = with_length ws ++ lists_bytes lists

-- the bytes of a table and lists
unfoldable pub input_of : List ℕ → List (List ℕ) → List ℕ
input_of t lists = with_length t ++ lists_bytes lists

-- words that can be a list: there are no more than a list may have
pub record ListWords (ws : List ℕ) : Type 0 where
  pub words : AllWords ws
  pub short : length ws ≤ longest_list

unfoldable pub AllLists : List (List ℕ) → Type 0
AllLists [] = Unit {0}
AllLists (ws ∷ lists) = ListWords ws × AllLists lists

-- a table and lists that can be an input: the table may be refused
pub record WellFormed (t : List ℕ) (lists : List (List ℕ)) : Type 0 where
  pub table : TableWords t
  pub each_list : AllLists lists
  pub few : length lists ≤ most_lists

-- bytes are read as a table and lists, which end with a code; for an accepted table the lines of just these are printed
pub record ReadAs (t : List ℕ) (lists : List (List ℕ)) (code : ℕ) (bytes : List ℕ) : Type 0 where
  pub has_table : no_table bytes ≡ false
  pub table_is : table_of bytes ≡ t
  pub lists_are : (lists_of bytes).lists ≡ lists
  pub code_is : (lists_of bytes).code ≡ code
  pub printed : Accepted t → sheet bytes ≡ totals_lines t lists code

-- An input of a table and lists gives just these, and code 0.
abbrev pub EveryInputRead : Type 0
EveryInputRead = (t : List ℕ) (lists : List (List ℕ)) → WellFormed t lists → ReadAs t lists 0 (input_of t lists)

-- What refuses a list after these: it changes nothing, and the lists before it are printed with its code. 1 is for a length word
-- above 4,096 and for any byte after the last list that there may be, 7 for a length word and for a list that is cut short.
pub record RefusedAfter (t : List ℕ) (lists : List (List ℕ)) (tail : List ℕ) : Type 0 where
  pub too_many : length lists ≡ most_lists → 0 < length tail → ReadAs t lists 1 (input_of t lists ++ tail)
  pub cut_word : length lists < most_lists → 0 < length tail → length tail < 4 → ReadAs t lists 7 (input_of t lists ++ tail)
  pub long_list : length lists < most_lists → 4 ≤ length tail → longest_list < word_at tail 0 → ReadAs t lists 1 (input_of t lists ++ tail)
  pub cut_list : length lists < most_lists → 4 ≤ length tail → word_at tail 0 ≤ longest_list → length tail < 4 + 4 * word_at tail 0
      → ReadAs t lists 7 (input_of t lists ++ tail)

abbrev pub EveryListRefused : Type 0
EveryListRefused = (t : List ℕ) (lists : List (List ℕ)) (tail : List ℕ) → WellFormed t lists → RefusedAfter t lists tail

-- ---- any input

-- No input gives more lists than there may be.
abbrev pub EveryInputFew : Type 0
EveryInputFew = (bytes : List ℕ) → length (lists_of bytes).lists ≤ most_lists

-- A refused table prints the last line alone, by 7 or by the code of its check, 2 to 5; lists end with 0, 1 or 7.
pub record Codes (bytes : List ℕ) : Type 0 where
  pub cut_table : no_table bytes ≡ true → sheet bytes ≡ last_line 0 7
  pub refused_table : no_table bytes ≡ false → (Accepted (table_of bytes) → ⊥) → sheet bytes ≡ last_line 0 (table_code (table_of bytes))
  pub table_codes : (Accepted (table_of bytes)) ⊎ ((2 ≤ table_code (table_of bytes)) × (table_code (table_of bytes) ≤ 5))
  pub list_codes : ((lists_of bytes).code ≡ 0) ⊎ (((lists_of bytes).code ≡ 1) ⊎ ((lists_of bytes).code ≡ 7))

abbrev pub EveryCode : Type 0
EveryCode = (bytes : List ℕ) → Codes bytes

-- Nothing that follows matters after a table's length word that is too large, after a refused table, and after code 1.
pub record Final (bytes more : List ℕ) : Type 0 where
  pub long_table : 4 ≤ length bytes → longest_table < table_length bytes → sheet (bytes ++ more) ≡ sheet bytes
  pub refused_table : no_table bytes ≡ false → (Accepted (table_of bytes) → ⊥) → sheet (bytes ++ more) ≡ sheet bytes
  pub refused_list : no_table bytes ≡ false → (lists_of bytes).code ≡ 1 → sheet (bytes ++ more) ≡ sheet bytes

abbrev pub EveryRefusalFinal : Type 0
EveryRefusalFinal = (bytes more : List ℕ) → Final bytes more
