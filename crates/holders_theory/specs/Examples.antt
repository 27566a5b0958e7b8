-- Rows that pin the holders, the noting of changes and what is asked (document 02 (h)), on literal words. Worked out by hand.
use Rattle.std.specs.Prelude.{ℕ, ◌≡◌, List, [], ◌∷◌, take, replicate}
use Rattle.machine.specs.Call.{split}
use Rattle.machine.specs.Holders.{holders_of}
use Rattle.machine.specs.Examples.{T, L}
use Rattle.reachability.specs.Examples.{chain, ring}
use Rattle.holders_theory.specs.Noted.{noted, filled, holders_after_calls}
use Rattle.holders_theory.specs.Asked.{ask_code, asked}

-- A row is one of four: lent words once a table's holders are computed into them, the holders noted along a list that runs from a
-- table, words before and after new rights of a holder on a target, or the report of a domain.
pub data HoldersRow : Type 0 where
  fills : (table lent words : List ℕ) → HoldersRow
  keeps : (table list words : List ℕ) → HoldersRow
  notes : (before : List ℕ) (holder target rights : ℕ) (after : List ℕ) → HoldersRow
  tells : (words : List ℕ) (domain code set : ℕ) → HoldersRow

-- what a row says
abbrev pub HoldersRowHolds : HoldersRow → Type 0
HoldersRowHolds (fills t p ws) = filled t p ≡ ws
HoldersRowHolds (keeps t l ws) = holders_after_calls (holders_of t) t (split l) ≡ ws
HoldersRowHolds (notes p h g s ws) = noted p h g s ≡ ws
HoldersRowHolds (tells ws d code set) = (ask_code ws d ≡ code) × (asked ws d ≡ set)

-- the single claim about a list of such rows: each holds
abbrev pub EveryHoldersRow : List HoldersRow → Type 0
EveryHoldersRow [] = Unit {0}
EveryHoldersRow (r ∷ rs) = HoldersRowHolds r × EveryHoldersRow rs

-- two domains, of which 0 has SEND, GRANT and REMOVE on 1
abbrev pub one_on_other : List ℕ
one_on_other = 0x1000_0200 ∷ 0x2000_0000 ∷ 0x2000_0007 ∷ 0x2000_0000 ∷ 0x2000_0000 ∷ []

-- the rows of tables
abbrev pub table_rows : List HoldersRow
table_rows =
    -- table T, whatever the lent words held: 1 has rights on 0 and 2, and 0 on 1
    fills T (7 ∷ 0xFFFF_FFFF ∷ 9 ∷ []) (0b010 ∷ 0b001 ∷ 0b010 ∷ [])
    -- fewer and more words than domains, a table without its last rights word, and one of seventeen domains
    ∷ fills T (7 ∷ 8 ∷ []) (7 ∷ 8 ∷ [])
    ∷ fills T (7 ∷ 8 ∷ 9 ∷ 10 ∷ []) (7 ∷ 8 ∷ 9 ∷ 10 ∷ [])
    ∷ fills (take 9 T) (7 ∷ 8 ∷ 9 ∷ []) (7 ∷ 8 ∷ 9 ∷ [])
    ∷ fills (0x1000_1100 ∷ replicate 289 0x2000_0001) (replicate 17 7) (replicate 17 7)
    -- list L: 0 is given SEND on 2
    ∷ keeps T L (0b010 ∷ 0b001 ∷ 0b011 ∷ [])
    -- the bit stays while a right is left, and goes with the last
    ∷ keeps one_on_other (0x7001_0001 ∷ []) (0b00 ∷ 0b01 ∷ [])
    ∷ keeps one_on_other (0x7001_0001 ∷ 0x7001_0006 ∷ []) (0b00 ∷ 0b00 ∷ [])
    ∷ []

-- the rows of single changes
abbrev pub change_rows : List HoldersRow
change_rows =
    -- a first right, one of two left, and the last one gone; the other bits stay
    notes (0b000 ∷ 0b000 ∷ 0b101 ∷ []) 1 2 1 (0b000 ∷ 0b000 ∷ 0b111 ∷ [])
    ∷ notes (0b000 ∷ 0b000 ∷ 0b111 ∷ []) 1 2 4 (0b000 ∷ 0b000 ∷ 0b111 ∷ [])
    ∷ notes (0b000 ∷ 0b000 ∷ 0b111 ∷ []) 1 2 0 (0b000 ∷ 0b000 ∷ 0b101 ∷ [])
    -- none before and none after
    ∷ notes (0b000 ∷ 0b000 ∷ 0b101 ∷ []) 1 2 0 (0b000 ∷ 0b000 ∷ 0b101 ∷ [])
    -- the last bit of a word, and a bit that no word has
    ∷ notes (0 ∷ []) 31 0 1 (0x8000_0000 ∷ [])
    ∷ notes (0 ∷ []) 32 0 1 (0 ∷ [])
    ∷ []

-- the rows of asking
abbrev pub asking_rows : List HoldersRow
asking_rows =
    -- a chain of length three, one of two, and nobody but the domain itself
    tells chain 3 0 0b1111
    ∷ tells chain 2 0 0b0111
    ∷ tells chain 0 0 0b0001
    -- table T: its link reaches the drive through 1
    ∷ tells (0b010 ∷ 0b001 ∷ 0b010 ∷ []) 2 0 0b111
    -- a ring of sixteen
    ∷ tells ring 0 0 0xFFFF
    ∷ tells ring 9 0 0xFFFF
    -- 32: seventeen words, a bit at or above their count, and an index that is no domain's
    ∷ tells (replicate 17 0) 0 32 0
    ∷ tells (0b00 ∷ 0b100 ∷ []) 0 32 0
    ∷ tells (0b00 ∷ 0b01 ∷ []) 2 32 0
    ∷ []
