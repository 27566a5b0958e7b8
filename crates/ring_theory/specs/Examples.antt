-- Rows of literals that pin the rings (document 02 (l)): places that wrap round, full rings, and what is loaded and stored. They
-- are worked out by hand.
use Rattle.std.specs.Prelude.{ℕ, ◌≡◌, List, [], ◌∷◌}
use Rattle.ring_theory.specs.Ring.{ring_sent, ring_take, ring_of, stored_queue}

-- A row: what a send and a receive leave of a ring, the ring that is loaded, and what a stored ring makes of an endpoint's words.
pub data RingRow : Type 0 where
  sends : (ring : List ℕ) (message : ℕ) (left : List ℕ) → RingRow
  takes : (ring left : List ℕ) → RingRow
  takes_in : (q ring : List ℕ) → RingRow
  puts_out : (ring q left : List ℕ) → RingRow

-- the single claim about a list of such rows: each holds
abbrev pub EveryRing : List RingRow → Type 0
EveryRing [] = Unit {0}
EveryRing (sends r m left ∷ rows) = (ring_sent r m ≡ left) × EveryRing rows
EveryRing (takes r left ∷ rows) = (ring_take r ≡ left) × EveryRing rows
EveryRing (takes_in q r ∷ rows) = (ring_of q ≡ r) × EveryRing rows
EveryRing (puts_out r q left ∷ rows) = (stored_queue r q ≡ left) × EveryRing rows

-- a ring with 1 to 8 in its places
abbrev pub numbered : ℕ → ℕ → ℕ → ℕ → List ℕ
numbered first count lost info = first ∷ count ∷ lost ∷ info ∷ 1 ∷ 2 ∷ 3 ∷ 4 ∷ 5 ∷ 6 ∷ 7 ∷ 8 ∷ []

-- an endpoint of owner 1 and capacity 3, with messages in all its slots
abbrev pub filled : ℕ → List ℕ
filled waiting =
    0x3000_0011 ∷ 0x4000_0103 ∷ waiting ∷ 0x6000_0004
    ∷ 0xF000_000A ∷ 0xF000_000B ∷ 0xF000_000C ∷ 0xF000_000D ∷ 0xF000_000E ∷ 0xF000_000F ∷ 0xF000_0010 ∷ 0xF000_0011 ∷ []

abbrev pub ring_rows : List RingRow
ring_rows =
    -- with space: the new message is after the last, where that wraps round
    sends (numbered 6 2 4 0x4000_0103) 9 (6 ∷ 3 ∷ 4 ∷ 0x4000_0103 ∷ 9 ∷ 2 ∷ 3 ∷ 4 ∷ 5 ∷ 6 ∷ 7 ∷ 8 ∷ [])
    -- full: the first place moves by one and lost rises, up to its largest
    ∷ sends (numbered 6 3 4 0x4000_0103) 9 (7 ∷ 3 ∷ 5 ∷ 0x4000_0103 ∷ 1 ∷ 9 ∷ 3 ∷ 4 ∷ 5 ∷ 6 ∷ 7 ∷ 8 ∷ [])
    ∷ sends (numbered 7 1 0x0FFF_FFFF 0x4000_0001) 9 (0 ∷ 1 ∷ 0x0FFF_FFFF ∷ 0x4000_0001 ∷ 9 ∷ 2 ∷ 3 ∷ 4 ∷ 5 ∷ 6 ∷ 7 ∷ 8 ∷ [])
    -- a receive moves the first place, where that wraps round
    ∷ takes (numbered 7 1 4 0x4000_0103) (numbered 0 0 4 0x4000_0103)
    -- a loaded ring begins at place 0
    ∷ takes_in (filled 0x5000_0002) (0 ∷ 2 ∷ 4 ∷ 0x4000_0103 ∷ 10 ∷ 11 ∷ 12 ∷ 13 ∷ 14 ∷ 15 ∷ 16 ∷ 17 ∷ [])
    -- the stored slots begin with the oldest message, and are empty from the count on
    ∷ puts_out (numbered 6 3 5 0x4000_0103) (filled 0x5000_0002)
    (0x3000_0011 ∷ 0x4000_0103 ∷ 0x5000_0003 ∷ 0x6000_0005
    ∷ 0xF000_0007 ∷ 0xF000_0008 ∷ 0xF000_0001 ∷ 0xF000_0000 ∷ 0xF000_0000 ∷ 0xF000_0000 ∷ 0xF000_0000 ∷ 0xF000_0000 ∷ [])
    ∷ []
