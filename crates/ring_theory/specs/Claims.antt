-- When a ring represents an endpoint's queue (document 02 (l)), and what is claimed of it: a loaded ring represents the queue,
-- sends and receives on a ring simulate those on the queue, and a stored ring is the queue.
use Rattle.std.specs.Prelude.{ℕ, ◌+◌, ◌<◌, ◌≤◌, ◌≡◌, true, List, length, get_or, take}
use Rattle.machine.specs.Word.{payload, most_payload}
use Rattle.machine.specs.Queue.{capacity, waiting, lost, sent, received}
use Rattle.machine.specs.Check.{queue_ok}
use Rattle.ring_theory.specs.Ring as ring
use Rattle.ring_theory.specs.Ring.{first_place, count, lost_count, message_at, ring_sent, ring_take, ring_of, stored_queue}

-- The ring r represents the queue of the endpoint's words q: the same counts, the same info, the same messages in their order.
-- Any place may be the first, and the places after the count may have any word.
pub record RepresentsQueue (r q : List ℕ) : Type 0 where
  pub twelve : length r ≡ 12
  pub place : first_place r < 8
  pub most : count r ≤ 8
  pub same_count : count r ≡ waiting q
  pub same_lost : lost_count r ≡ lost q
  pub same_info : ring.info r ≡ get_or q 1 0
  pub messages : (i : ℕ) → i < count r → message_at r i ≡ payload (get_or q (4 + i) 0)

-- a ring loaded from a queue in which at most 8 wait represents it
abbrev pub LoadedRingRepresents : Type 0
LoadedRingRepresents = (q : List ℕ) → waiting q ≤ 8 → RepresentsQueue (ring_of q) q

-- Of twelve words with a capacity of 1 to 8: a send of a message of 28 bits, to a full queue too, and a receive, where one waits,
-- leave a ring that represents what they leave of the queue.
abbrev pub QueuesSimulate : Type 0
QueuesSimulate =
    (q r : List ℕ)
    → length q ≡ 12
    → 1 ≤ capacity q
    → capacity q ≤ 8
    → RepresentsQueue r q
    → ((message : ℕ) → message ≤ most_payload → RepresentsQueue (ring_sent r message) (sent q message))
    × (1 ≤ waiting q → RepresentsQueue (ring_take r) (received q))

-- a ring that represents twelve words with a sound queue, stored to twelve words with the same name and info, gives these words
abbrev pub StoreIsQueue : Type 0
StoreIsQueue =
    (q₀ q r : List ℕ)
    → length q₀ ≡ 12
    → length q ≡ 12
    → take 2 q₀ ≡ take 2 q
    → queue_ok q ≡ true
    → RepresentsQueue r q
    → stored_queue r q₀ ≡ q
