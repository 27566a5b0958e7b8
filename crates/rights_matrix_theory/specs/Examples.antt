-- Literals that pin loading, altering and storing rows (document 02 (l)), on a table of two domains. Worked out by hand.
use Rattle.std.specs.Prelude.{ℕ, ◌≡◌, List, [], ◌∷◌}
use Rattle.rights_matrix_theory.specs.Rows.{held_in, with_held, rows_of, stored_rows}

-- a table's header and its rights words, and a word after them
abbrev pub two : List ℕ
two = 0x1000_0200 ∷ 0x2000_0001 ∷ 0x2000_0002 ∷ 0x2000_0004 ∷ 0x2000_0008 ∷ 0x3000_0011 ∷ []

-- what each domain holds on each, and what is held on and by a domain that isn't there
abbrev pub RowLoaded : Type 0
RowLoaded =
    (held_in (rows_of 2 two) 0 0 ≡ 1)
    × (held_in (rows_of 2 two) 0 1 ≡ 2)
    × (held_in (rows_of 2 two) 1 0 ≡ 4)
    × (held_in (rows_of 2 two) 1 1 ≡ 8)
    × (held_in (rows_of 2 two) 1 2 ≡ 0)
    × (held_in (rows_of 2 two) 2 0 ≡ 0)

-- domain 0's rights on 1 become 15, and are stored: the header and the word after the rights words stay
abbrev pub RowStored : Type 0
RowStored =
    stored_rows 2 (with_held (rows_of 2 two) 0 1 15) two
    ≡ 0x1000_0200 ∷ 0x2000_0001 ∷ 0x2000_000F ∷ 0x2000_0004 ∷ 0x2000_0008 ∷ 0x3000_0011 ∷ []
