-- What a receive leaves (document 02 (d)): the waiting messages move up, and the slots from the waiting count on stay whatever
-- they hold. The claims, and rows of literals on words that have messages there, which no check accepts. Worked out by hand.
use Rattle.std.specs.Prelude.{ℕ, ◌+◌, ◌-◌, ◌<◌, ◌≡◌, true, List, [], ◌∷◌, length, get_or, take, drop}
use Rattle.machine.specs.Word.{word}
use Rattle.machine.specs.Queue.{waiting, empty_slot}
use Rattle.queue.specs.Queue.{receivable, left_by_receive}

-- Of any twelve words with 1 to 8 waiting, the slots from the waiting count on stay.
abbrev pub LaterSlotsStay : Type 0
LaterSlotsStay = (q : List ℕ) → receivable q ≡ true → drop (4 + waiting q) (left_by_receive q) ≡ drop (4 + waiting q) q

-- What a receive leaves of the twelve words q: name, info and lost count stay, waiting falls by 1, the waiting messages after the
-- oldest move up by one slot, and the slot that comes free is empty.
pub record MovedUp (q left : List ℕ) : Type 0 where
  pub size : length left ≡ 12
  pub identity : take 2 left ≡ take 2 q
  pub count : get_or left 2 0 ≡ word 5 (waiting q - 1)
  pub lost : get_or left 3 0 ≡ get_or q 3 0
  pub moved : (i : ℕ) → i + 1 < waiting q → get_or left (4 + i) 0 ≡ get_or q (5 + i) 0
  pub freed : get_or left (3 + waiting q) 0 ≡ empty_slot

-- "Move only the waiting words and clear the one slot that comes free" (document 02 (d)), of any twelve words with 1 to 8 waiting.
abbrev pub WaitingMoveUp : Type 0
WaitingMoveUp = (q : List ℕ) → receivable q ≡ true → MovedUp q (left_by_receive q)

-- A row: from words to what a receive leaves of them.
pub data ReceiveRow : Type 0 where
  leaves : (words left : List ℕ) → ReceiveRow

-- the single claim about a list of such rows: each holds
abbrev pub EveryReceive : List ReceiveRow → Type 0
EveryReceive [] = Unit {0}
EveryReceive (leaves q p ∷ rows) = (left_by_receive q ≡ p) × EveryReceive rows

-- twelve words with a message in every slot, for a waiting word
abbrev pub filled : ℕ → List ℕ
filled w =
    0x3000_0001 ∷ 0x4000_0008 ∷ w ∷ 0x6000_0007
    ∷ 0xF000_0001 ∷ 0xF000_0002 ∷ 0xF000_0003 ∷ 0xF000_0004 ∷ 0xF000_0005 ∷ 0xF000_0006 ∷ 0xF000_0007 ∷ 0xF000_0008 ∷ []

abbrev pub receive_rows : List ReceiveRow
receive_rows =
    -- one waits: nothing moves up
    leaves (filled 0x5000_0001)
    (0x3000_0001 ∷ 0x4000_0008 ∷ 0x5000_0000 ∷ 0x6000_0007
    ∷ 0xF000_0000 ∷ 0xF000_0002 ∷ 0xF000_0003 ∷ 0xF000_0004 ∷ 0xF000_0005 ∷ 0xF000_0006 ∷ 0xF000_0007 ∷ 0xF000_0008 ∷ [])
    -- three wait: two move up, and the third slot comes free
    ∷ leaves (filled 0x5000_0003)
    (0x3000_0001 ∷ 0x4000_0008 ∷ 0x5000_0002 ∷ 0x6000_0007
    ∷ 0xF000_0002 ∷ 0xF000_0003 ∷ 0xF000_0000 ∷ 0xF000_0004 ∷ 0xF000_0005 ∷ 0xF000_0006 ∷ 0xF000_0007 ∷ 0xF000_0008 ∷ [])
    -- eight wait: no slot is after them
    ∷ leaves (filled 0x5000_0008)
    (0x3000_0001 ∷ 0x4000_0008 ∷ 0x5000_0007 ∷ 0x6000_0007
    ∷ 0xF000_0002 ∷ 0xF000_0003 ∷ 0xF000_0004 ∷ 0xF000_0005 ∷ 0xF000_0006 ∷ 0xF000_0007 ∷ 0xF000_0008 ∷ 0xF000_0000 ∷ [])
    -- two wait, in words of no kind that an endpoint has
    ∷ leaves (1 ∷ 2 ∷ 0x9000_0002 ∷ 3 ∷ 4 ∷ 5 ∷ 6 ∷ 7 ∷ 8 ∷ 9 ∷ 10 ∷ 0xFFFF_FFFF ∷ [])
    (1 ∷ 2 ∷ 0x5000_0001 ∷ 3 ∷ 5 ∷ 0xF000_0000 ∷ 6 ∷ 7 ∷ 8 ∷ 9 ∷ 10 ∷ 0xFFFF_FFFF ∷ [])
    -- none waits, more wait than there are slots, and a word is missing: all stays
    ∷ leaves (filled 0x5000_0000) (filled 0x5000_0000)
    ∷ leaves (filled 0x5000_0009) (filled 0x5000_0009)
    ∷ leaves (take 11 (filled 0x5000_0001)) (take 11 (filled 0x5000_0001))
    ∷ []
