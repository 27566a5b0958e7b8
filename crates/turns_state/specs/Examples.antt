-- Rows that pin which words of a domain's seventeen are pending (document 02 (m)). No history makes some of these words. Worked out
-- by hand.
use Rattle.std.specs.Prelude.{ℕ, ◌≡◌, List, [], ◌∷◌}
use Rattle.turns_state.specs.Pending.{pending_in}

-- A row: words, and those of them that are pending.
pub data PendingRow : Type 0 where
  holds : (words pending : List ℕ) → PendingRow

-- what a row says
abbrev pub PendingRowHolds : PendingRow → Type 0
PendingRowHolds (holds b ws) = pending_in b ≡ ws

-- the single claim about a list of such rows: each holds
abbrev pub EveryPendingRow : List PendingRow → Type 0
EveryPendingRow [] = Unit {0}
EveryPendingRow (r ∷ rs) = PendingRowHolds r × EveryPendingRow rs

-- sixteen words, all different
abbrev pub sixteen : List ℕ
sixteen = 0x51 ∷ 0x52 ∷ 0x53 ∷ 0x54 ∷ 0x55 ∷ 0x56 ∷ 0x57 ∷ 0x58 ∷ 0x59 ∷ 0x5A ∷ 0x5B ∷ 0x5C ∷ 0x5D ∷ 0x5E ∷ 0x5F ∷ 0x60 ∷ []

abbrev pub pending_rows : List PendingRow
pending_rows =
    holds (0 ∷ sixteen) []
    ∷ holds (2 ∷ sixteen) (0x51 ∷ 0x52 ∷ [])
    ∷ holds (16 ∷ sixteen) sixteen
    ∷ holds (17 ∷ sixteen) sixteen
    ∷ holds [] []
    ∷ []
