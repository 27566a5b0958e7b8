-- Bytes written over a lent buffer from an index on: what each writer leaves in the buffer, and the index that it returns.
-- A writer never refuses. It leaves out what lies past the end of the buffer, and the index after the text is then one past the
-- buffer's length, from which every later writer writes nothing. So a text is written piece by piece with one test at its end.
use Rattle.std.specs.Prelude.{ℕ, zero, suc, ◌+◌, min, ◌≡◌, List, [], ◌∷◌, length}

-- a buffer with a text written over it from an index on, up to the end of the buffer
unfoldable pub overwrite : ℕ → List ℕ → List ℕ → List ℕ
overwrite at text [] = []
overwrite zero [] (b ∷ buffer) = b ∷ buffer
overwrite zero (c ∷ text) (b ∷ buffer) = c ∷ overwrite zero text buffer
overwrite (suc at) text (b ∷ buffer) = b ∷ overwrite at text buffer

-- the index after a text that begins at an index: one past the buffer's length where the text does not fit
abbrev pub place_after : ℕ → List ℕ → List ℕ → ℕ
place_after at text buffer = min (at + length text) (length buffer + 1)

-- what a writer of a text does to a buffer from an index on: the index that it returns, and the buffer that it leaves
pub record Writes (at : ℕ) (text buffer : List ℕ) (next : ℕ) (left : List ℕ) : Type 0 where
  pub place : next ≡ place_after at text buffer
  pub bytes : left ≡ overwrite at text buffer

-- what a function that fills a buffer from its front does: the count of items that it returns, and the buffer that it leaves
pub record Fills (items buffer : List ℕ) (count : ℕ) (left : List ℕ) : Type 0 where
  pub count-is : count ≡ min (length items) (length buffer)
  pub items-are : left ≡ overwrite 0 items buffer
