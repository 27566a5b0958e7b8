-- Rows that pin the totals (document 02 (e)), worked out by hand: list L of document 01 twice on table T, lists that are split
-- separately, and a queue whose lost word reaches its largest.
use Rattle.std.specs.Prelude.{ℕ, ◌≡◌, List, [], ◌∷◌, set}
use Rattle.machine.specs.Examples.{T, L}
use Rattle.totals_theory.specs.Totals.{Totals, totals}

-- lists that are run from a table, an endpoint, and what is counted there
pub record Row : Type 0 where
  pub table : List ℕ
  pub lists : List (List ℕ)
  pub at : ℕ
  pub counted : Totals

-- every row holds of the definition
abbrev pub EveryRow : List Row → Type 0
EveryRow [] = Unit {0}
EveryRow (r ∷ rs) = (totals r.at r.table r.lists ≡ r.counted) × EveryRow rs

-- T with endpoint 0 full and its lost word one below its largest
abbrev pub almost_most_lost : List ℕ
almost_most_lost = set (set (set (set T 12 0x5000_0002) 13 0x6FFF_FFFE) 14 0xF000_0001) 15 0xF000_0002

-- the rows
abbrev pub rows : List Row
rows =
    -- L twice: in the first run a send is refused by 17, one is done and one finds the queue full; in the second the first finds
    -- space and two find the queue full
    record { table = T; lists = L ∷ L ∷ []; at = 1; counted = record { sent = 5; received = 2; lost = 3 } }
    -- a list that ends in a send, and one that begins with a word of kind 15: no message is sent
    ∷ record {
      table = T;
      lists = (0x2000_0000 ∷ []) ∷ (0xF000_0007 ∷ []) ∷ [];
      at = 0;
      counted = record { sent = 0; received = 0; lost = 0 };
    }
    -- three messages are lost where the table's count rises by one
    ∷ record {
      table = almost_most_lost;
      lists = (0x2000_0000 ∷ 0xF000_0007 ∷ 0x2000_0000 ∷ 0xF000_0008 ∷ []) ∷ [] ∷ (0x2000_0000 ∷ 0xF000_0009 ∷ 0x3040_0000 ∷ []) ∷ [];
      at = 0;
      counted = record { sent = 3; received = 1; lost = 3 };
    }
    ∷ []
