-- Rows that pin the closure on literal words: bit u of word v says that u has a step to v. Worked out by hand.
use Rattle.std.specs.Prelude.{ℕ, ◌≡◌, List, [], ◌∷◌}
use Rattle.reachability.specs.Closure.{closed}

-- A row: from words and a set to its closure.
pub data ClosureRow : Type 0 where
  closes : (words : List ℕ) (set closure : ℕ) → ClosureRow

-- what a row says
abbrev pub ClosureRowHolds : ClosureRow → Type 0
ClosureRowHolds (closes ws s r) = closed ws s ≡ r

-- the single claim about a list of such rows: each holds
abbrev pub EveryClosureRow : List ClosureRow → Type 0
EveryClosureRow [] = Unit {0}
EveryClosureRow (r ∷ rs) = ClosureRowHolds r × EveryClosureRow rs

-- steps from 0 to 1, from 1 to 2 and from 2 to 3
abbrev pub chain : List ℕ
chain = 0b0000 ∷ 0b0001 ∷ 0b0010 ∷ 0b0100 ∷ []

-- sixteen in a ring: each has a step to the next, and the last to the first
abbrev pub ring : List ℕ
ring =
    0x8000
    ∷ 0x0001
    ∷ 0x0002
    ∷ 0x0004
    ∷ 0x0008
    ∷ 0x0010
    ∷ 0x0020
    ∷ 0x0040
    ∷ 0x0080
    ∷ 0x0100
    ∷ 0x0200
    ∷ 0x0400
    ∷ 0x0800
    ∷ 0x1000
    ∷ 0x2000
    ∷ 0x4000
    ∷ []

-- the rows
abbrev pub closure_rows : List ClosureRow
closure_rows =
    -- steps count towards the set and not away from it
    closes chain 0b1000 0b1111
    ∷ closes chain 0b0100 0b0111
    -- a ring is closed from each of its members
    ∷ closes ring 0x0001 0xFFFF
    ∷ closes ring 0x0100 0xFFFF
    ∷ []
