-- A queue as a ring (document 02 (l)): eight places with a first place and a count, wrapping round, in twelve words. The file has
-- what a send and a receive make of them, and how a ring is loaded from an endpoint's twelve words and stored to them. The
-- definitions are total: they accept arbitrary words.
use Rattle.std.specs.Prelude.{ℕ, ◌+◌, ◌-◌, ◌%◌, min, cond, List, ◌∷◌, ◌++◌, eqb, ltb, length, get_or, take, set}
use Rattle.machine.specs.Below.{words_below}
use Rattle.machine.specs.Word.{payload, word, field_b, field_c}
use Rattle.machine.specs.Queue.{waiting, lost, empty_slot, most_lost}

-- word 0: the first place; word 1: the count; word 2: the lost count; word 3: the endpoint's info word; words 4 to 11: the places
unfoldable pub first_place : List ℕ → ℕ
first_place r = get_or r 0 0

unfoldable pub count : List ℕ → ℕ
count r = get_or r 1 0

unfoldable pub lost_count : List ℕ → ℕ
lost_count r = get_or r 2 0

unfoldable pub info : List ℕ → ℕ
info r = get_or r 3 0

-- the owner and the capacity, out of the info word
unfoldable pub ring_owner : List ℕ → ℕ
ring_owner r = field_b (info r)

unfoldable pub ring_capacity : List ℕ → ℕ
ring_capacity r = field_c (info r)

-- the index of the word of the i-th place from the first place f on, wrapping round
abbrev pub place_from : ℕ → ℕ → ℕ
place_from f i = 4 + (f + i) % 8

-- message i, oldest first
unfoldable pub message_at : List ℕ → ℕ → ℕ
message_at r i = get_or r (place_from (first_place r) i) 0

-- the ring with a message put after the last
unfoldable pub put_last : List ℕ → ℕ → List ℕ
put_last r message = set r (place_from (first_place r) (count r)) message

-- A send: with space the count rises by 1. Else the first place moves by one, over the oldest message, and lost rises by 1,
-- staying at its largest.
unfoldable pub ring_sent : List ℕ → ℕ → List ℕ
ring_sent r message =
    cond (ltb (count r) (ring_capacity r)) (set (put_last r message) 1 (count r + 1))
    (set (set (put_last r message) 0 ((first_place r + 1) % 8)) 2 (min (lost_count r + 1) most_lost))

-- a receive: the first place moves by one, over the oldest message, and the count falls by 1
unfoldable pub ring_take : List ℕ → List ℕ
ring_take r = set (set r 0 ((first_place r + 1) % 8)) 1 (count r - 1)

-- the ring of an endpoint's twelve words: it begins at place 0
unfoldable pub ring_of : List ℕ → List ℕ
ring_of q = 0 ∷ waiting q ∷ lost q ∷ get_or q 1 0 ∷ words_below 8 (λ i. payload (get_or q (4 + i) 0))

-- slot i of the endpoint that a ring is stored to: message i, and empty from the count on
unfoldable pub stored_slot : List ℕ → ℕ → ℕ
stored_slot r i = cond (ltb i (count r)) (word 15 (payload (message_at r i))) empty_slot

-- an endpoint's words with a ring stored to them: the name and the info stay
unfoldable pub stored_queue : List ℕ → List ℕ → List ℕ
stored_queue r q =
    take 2 q ++ (word 5 (payload (count r)) ∷ word 6 (payload (lost_count r)) ∷ words_below 8 (stored_slot r))

-- ---- by the count of the words: `done` for twelve of them, `left` for more or fewer
unfoldable pub of_twelve : {A : Type 0} → List ℕ → A → A → A
of_twelve ws done left = cond (eqb (length ws) 12) done left
