-- An endpoint's twelve words, and what a send and a receive make of them (document 01, 'The table' and
-- 'The striking rule'; document 02 (a), a full queue). Nothing here depends on the rest of the table.
use Rattle.std.specs.Prelude.{ℕ, ◌+◌, ◌-◌, min, Bool, cond, List, ◌∷◌, ◌++◌, get_or, take, drop, set, ltb}
use Rattle.machine.specs.Word.{payload, word, field_b, field_c}

-- word 0: the name; word 1: the owner and the capacity; word 2: the waiting count; word 3: the lost count; words 4 to 11: the slots
unfoldable pub name : List ℕ → ℕ
name q = payload (get_or q 0 0)

unfoldable pub owner : List ℕ → ℕ
owner q = field_b (get_or q 1 0)

unfoldable pub capacity : List ℕ → ℕ
capacity q = field_c (get_or q 1 0)

unfoldable pub waiting : List ℕ → ℕ
waiting q = payload (get_or q 2 0)

unfoldable pub lost : List ℕ → ℕ
lost q = payload (get_or q 3 0)

-- the oldest message
unfoldable pub oldest : List ℕ → ℕ
oldest q = payload (get_or q 4 0)

-- a slot with no message in it, F0000000
abbrev pub empty_slot : ℕ
empty_slot = word 15 0

-- the largest lost count
abbrev pub most_lost : ℕ
most_lost = 268435455

-- fewer wait than the capacity
unfoldable pub has_space : List ℕ → Bool
has_space q = ltb (waiting q) (capacity q)

-- a send with space: the message fills the slot at the waiting count, and waiting rises by 1
unfoldable pub send_with_space : List ℕ → ℕ → List ℕ
send_with_space q message = set (set q (4 + waiting q) (word 15 message)) 2 (word 5 (waiting q + 1))

-- the waiting messages move up by one slot, and the slot that becomes free is empty; slots from the waiting count on stay
unfoldable pub moved_up : List ℕ → ℕ → List ℕ
moved_up q count = take 4 q ++ (take (count - 1) (drop 5 q) ++ (empty_slot ∷ drop (4 + count) q))

-- a receive: the oldest message leaves, the others move up, and waiting falls by 1
unfoldable pub received : List ℕ → List ℕ
received q = set (moved_up q (waiting q)) 2 (word 5 (waiting q - 1))

-- A send to a full queue (document 02 (a)): the oldest message is pushed out as by a receive, the newcomer goes last, and
-- lost rises by 1, staying at its largest.
unfoldable pub send_to_full : List ℕ → ℕ → List ℕ
send_to_full q message = set (send_with_space (received q) message) 3 (word 6 (min (lost q + 1) most_lost))

-- a send: with space, or to a full queue
unfoldable pub sent : List ℕ → ℕ → List ℕ
sent q message = cond (has_space q) (send_with_space q message) (send_to_full q message)
