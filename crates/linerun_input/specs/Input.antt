-- What `linerun` reads (document 01, 'Into firmware and onto the bench'): the table, then the list's words up to word 4,097.
use Rattle.std.specs.Prelude.{ℕ, ◌+◌, ◌-◌, ◌*◌, ◌%◌, ◌≡◌, Bool, cond, not, ◌&&◌, ◌||◌, List, length, take, eqb, ltb}
use Rattle.machine.specs.Entry.{longest_list}
use Rattle.input_words.specs.Bytes.{words_of}
use Rattle.input_words.specs.TableInput.{longest_table, no_table, after_table, table_wanted, NeededBy}

-- the count of list words at which the reading stops: the last of them is one too many
abbrev pub list_words_read : ℕ
list_words_read = longest_list + 1

-- the list's words
unfoldable pub list_of : List ℕ → List ℕ
list_of bytes = take list_words_read (words_of (after_table bytes))

-- the bytes after the table end, before the reading stops, with bytes that make no whole word
unfoldable pub left_over : List ℕ → Bool
left_over rest = ltb (length rest) (4 * list_words_read) && not (eqb (length rest % 4) 0)

-- the conditions of the program's own code, 7
unfoldable pub unreadable : List ℕ → Bool
unreadable bytes = no_table bytes || left_over (after_table bytes)

-- how many more bytes to read, where the input so far is these; 0 where no further byte can matter
unfoldable pub wanted : List ℕ → ℕ
wanted bytes = cond (no_table bytes) (table_wanted bytes) (4 * list_words_read - length (after_table bytes))

-- the most bytes that are read: the length word, the longest table, and list words until the reading stops
abbrev pub most_input : ℕ
most_input = 4 + 4 * longest_table + 4 * list_words_read

-- each of these bytes was needed: after the bytes before it, more was wanted
abbrev pub Needed : List ℕ → Type 0
Needed bytes = NeededBy wanted bytes

-- What the reading leaves: these bytes, and whether more is wanted after them. It reads no byte past the first point where nothing
-- more is wanted, so that it waits for none. That a reading which stops while more is wanted has met the input's end is believed of
-- the world.
pub record Reads (bytes : List ℕ) (ended : Bool) : Type 0 where
  pub reason : ended ≡ ltb 0 (wanted bytes)
  pub needed : Needed bytes
