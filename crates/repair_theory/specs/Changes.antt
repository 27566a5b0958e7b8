-- The words in which two tables of one length differ, reported as a list of pairs from which the older one can be restored
-- (document 02 (k)).
use Rattle.std.specs.Prelude.{ℕ, not, List, [], ◌∷◌, eqb, length, get_or, set}
use Rattle.machine.specs.Below.{numbers_below}

-- the places at which a new table differs from the old one, lowest first
unfoldable pub differing : List ℕ → List ℕ → List ℕ
differing old new = numbers_below (length old) (λ i. not (eqb (get_or old i 0) (get_or new i 0)))

-- two words for each of some places: the place, and what a table has there
unfoldable pub change_pairs : List ℕ → List ℕ → List ℕ
change_pairs t [] = []
change_pairs t (i ∷ is) = i ∷ get_or t i 0 ∷ change_pairs t is

-- the changes from an old table to a new one: each place at which they differ, with its old content
unfoldable pub changes : List ℕ → List ℕ → List ℕ
changes old new = change_pairs old (differing old new)

-- a table with the content of each pair put back at its place
unfoldable pub put_back : List ℕ → List ℕ → List ℕ
put_back t [] = t
put_back t (i ∷ []) = t
put_back t (i ∷ w ∷ rest) = put_back (set t i w) rest
