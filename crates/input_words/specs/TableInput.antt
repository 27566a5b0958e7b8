-- How a program's input gives a table: a word with the table's length in words, then the table's words (document 01, 'Into
-- firmware and onto the bench', and the first three conditions of code 7). Also when the bytes of an input were needed.
use Rattle.std.specs.Prelude.{ℕ, ◌+◌, ◌-◌, ◌*◌, ◌<◌, ◌≤◌, Bool, cond, ◌||◌, List, ◌∷◌, length, take, drop, ltb}
use Rattle.machine.specs.Table.{length_for}
use Rattle.input_words.specs.Bytes.{word_at, words_of, bytes_of, AllWords}

-- the most words that a table has: those of 16 domains and 32 endpoints, 641
abbrev pub longest_table : ℕ
longest_table = length_for 16 32

-- the table's length in words, by the input's first word
abbrev pub table_length : List ℕ → ℕ
table_length bytes = word_at bytes 0

-- where the table's bytes end
abbrev pub table_end : List ℕ → ℕ
table_end bytes = 4 + 4 * table_length bytes

-- the input has no whole table: under 4 bytes, a length above the longest, or fewer words than its length says
unfoldable pub no_table : List ℕ → Bool
no_table bytes =
    ltb (length bytes) 4 || ltb longest_table (table_length bytes) || ltb (length bytes) (table_end bytes)

-- the table's words, and the bytes after them
unfoldable pub table_of : List ℕ → List ℕ
table_of bytes = take (table_length bytes) (words_of (drop 4 bytes))

unfoldable pub after_table : List ℕ → List ℕ
after_table bytes = drop (table_end bytes) bytes

-- the bytes of words in an input, with their count before them
unfoldable pub with_length : List ℕ → List ℕ
with_length ws = bytes_of (length ws ∷ ws)

-- words that can be a table in an input, accepted or not: there are no more than the longest table has
pub record TableWords (t : List ℕ) : Type 0 where
  pub words : AllWords t
  pub short : length t ≤ longest_table

-- how many more bytes to read, where the input so far is these: first the length word, then the table that it announces
unfoldable pub table_wanted : List ℕ → ℕ
table_wanted bytes =
    cond (ltb (length bytes) 4) (4 - length bytes)
    (cond (ltb longest_table (table_length bytes)) 0 (table_end bytes - length bytes))

-- Each of these bytes was needed, where `wanted` is how many more are wanted after any bytes: after the bytes before it, some were.
abbrev pub NeededBy : (List ℕ → ℕ) → List ℕ → Type 0
NeededBy wanted bytes = (k : ℕ) → k < length bytes → 0 < wanted (take k bytes)
