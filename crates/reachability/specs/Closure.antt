-- The closure of a set over words, as it is computed. A set is a number with a bit for each member, and bit u of word v says
-- that u has a step to v. Nothing here depends on a table. Total: accepts arbitrary words and sets.
use Rattle.std.specs.Prelude.{ℕ, zero, suc, ◌/◌, ◌%◌, cond, List, [], ◌∷◌, eqb, length}
use Rattle.std.specs.Int.Bits.{bit_or}

-- the set wide with word v added, for each v of the set members
unfoldable pub with_words : List ℕ → ℕ → ℕ → ℕ
with_words [] members wide = wide
with_words (w ∷ ws) members wide = with_words ws (members / 2) (cond (eqb (members % 2) 1) (bit_or wide w) wide)

-- the set s with all that have a step to a member
unfoldable pub widened : List ℕ → ℕ → ℕ
widened ws s = with_words ws s s

-- the set s, widened k times
unfoldable pub rounds : ℕ → List ℕ → ℕ → ℕ
rounds zero ws s = s
rounds (suc k) ws s = rounds k ws (widened ws s)

-- the closure of the set s: as many rounds as there are words
unfoldable pub closed : List ℕ → ℕ → ℕ
closed ws s = rounds (length ws) ws s
