-- What `linetotals` reads (document 02 (e), end-of-shift totals): the table as `linerun` reads it, then each list with its length
-- in words before it.
use Rattle.std.specs.Prelude.{ℕ, zero, suc, ◌+◌, ◌-◌, ◌*◌, cond, List, [], ◌∷◌, length, take, drop, eqb, ltb}
use Rattle.machine.specs.Check.{table_code}
use Rattle.machine.specs.Entry.{longest_list}
use Rattle.input_words.specs.Bytes.{word_at, words_of}
use Rattle.input_words.specs.TableInput.{no_table, table_of, after_table, table_wanted, NeededBy}

-- the most lists that there may be
abbrev pub most_lists : ℕ
most_lists = 65536

-- the lists that bytes give: those that run; the code that ends them where nothing follows the bytes, 0 at the input's end; and
-- how many more bytes to read, 0 where no further byte can matter
pub record Lists : Type 0 where
  pub lists : List (List ℕ)
  pub code : ℕ
  pub wanted : ℕ

-- no list, or no further one
unfoldable pub stopped : ℕ → ℕ → Lists
stopped code wanted = record { lists = []; code = code; wanted = wanted }

-- a list, and others after it
unfoldable pub then : List ℕ → Lists → Lists
then ws others = record { lists = ws ∷ others.lists; code = others.code; wanted = others.wanted }

-- how many bytes to read of those before a list, where so many more lists may come: its length word, and after the last list that
-- there may be one byte, since any is too many
unfoldable pub head_wanted : ℕ → ℕ
head_wanted zero = 1
head_wanted (suc left) = 4

-- a list of n words at the front of bytes, and the others after it, of which `left` may come; 7 where it is cut short
unfoldable pub list_first : ℕ → ℕ → List ℕ → Lists → Lists
list_first left n bytes others =
    cond (ltb (length bytes) (4 * n)) (stopped 7 (4 * n - length bytes + head_wanted left))
    (then (take n (words_of bytes)) others)

-- the lists that bytes give, where so many more may come: code 1 for one too many and for a length word above the longest list's,
-- else code 7 for a length word and for a list that is cut short
unfoldable pub lists_from : ℕ → List ℕ → Lists
lists_from zero [] = stopped 0 1
lists_from zero (b ∷ bytes) = stopped 1 0
lists_from (suc left) [] = stopped 0 4
lists_from (suc left) (b ∷ bytes) =
    let n = word_at (b ∷ bytes) 0 in
    let after_word = drop 4 (b ∷ bytes) in
    let others = lists_from left (drop (4 * n) after_word) in
    cond (ltb (length (b ∷ bytes)) 4) (stopped 7 (4 - length (b ∷ bytes)))
    (cond (ltb longest_list n) (stopped 1 0) (list_first left n after_word others))

-- the lists of a whole input
abbrev pub lists_of : List ℕ → Lists
lists_of bytes = lists_from most_lists (after_table bytes)

-- how many more bytes to read, where the input so far is these; 0 where no further byte can matter: a refused table ends the
-- reading before any list
unfoldable pub wanted : List ℕ → ℕ
wanted bytes =
    cond (no_table bytes) (table_wanted bytes)
    (cond (eqb (table_code (table_of bytes)) 0) (lists_of bytes).wanted 0)

-- each of these bytes was needed: after the bytes before it, more was wanted
abbrev pub Needed : List ℕ → Type 0
Needed bytes = NeededBy wanted bytes
