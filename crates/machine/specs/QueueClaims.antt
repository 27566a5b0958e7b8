-- Claims about the words of a queue that a call alters, in closed statements about accepted tables. Places are those of the whole
-- table: the endpoint e begins at `endpoint_at`, and its waiting count, lost count and slots are 2, 3 and 4 to 11 words further on.
-- Each is the type of a theorem in proofs/QueueClaims.
use Rattle.std.specs.Prelude.{ℕ, ◌+◌, ◌-◌, ◌<◌, ◌≤◌, min, ◌≡◌, true, false, List, get_or}
use Rattle.machine.specs.Word.{word}
use Rattle.machine.specs.Table.{domains, endpoints, endpoint_at, endpoint}
use Rattle.machine.specs.Queue.{waiting, lost, empty_slot, most_lost, has_space}
use Rattle.machine.specs.Check.{Accepted}
use Rattle.machine.specs.Call.{Call}
use Rattle.machine.specs.Machine.{decide, step, Decision.sends, Decision.receives}

-- From the table t to t', in which the endpoint of a queue begins at the place p and count messages wait in t: a message is put in
-- the slot at the waiting count, waiting rises by 1, and every other word of the table stays.
pub record SentWithSpace (t t' : List ℕ) (p count message : ℕ) : Type 0 where
  pub waiting : get_or t' (p + 2) 0 ≡ word 5 (count + 1)
  pub slot : get_or t' (p + (4 + count)) 0 ≡ word 15 message
  pub others : (i : ℕ) → (i ≡ p + 2 → ⊥) → (i ≡ p + (4 + count) → ⊥) → get_or t' i 0 ≡ get_or t i 0

-- "A send with space fills the slot at the waiting count and waiting rises by 1; what a row doesn't name stays"
-- (document 01, 'The striking rule').
abbrev pub EverySendWithSpace : Type 0
EverySendWithSpace =
    (t : List ℕ) (c : Call) (e message : ℕ)
    → Accepted t
    → decide t c ≡ sends e message
    → has_space (endpoint t e) ≡ true
    → SentWithSpace t (step t c) (endpoint_at (domains t) e) (waiting (endpoint t e)) message

-- Likewise: the oldest of count messages is dropped, the others move up by one slot, the newcomer is put in the last slot that they
-- have, the lost count is written, and every other word of the table stays, the waiting count too.
pub record SentToFull (t t' : List ℕ) (p count lost message : ℕ) : Type 0 where
  pub moved : (i : ℕ) → i + 1 < count → get_or t' (p + (4 + i)) 0 ≡ get_or t (p + (5 + i)) 0
  pub newcomer : get_or t' (p + (3 + count)) 0 ≡ word 15 message
  pub counted : get_or t' (p + 3) 0 ≡ word 6 lost
  pub before : (i : ℕ) → i < p + 3 → get_or t' i 0 ≡ get_or t i 0
  pub later : (i : ℕ) → p + (4 + count) ≤ i → get_or t' i 0 ≡ get_or t i 0

-- "A full queue is now to drop its oldest message and put the newcomer last. Lost still rises by 1" (document 02 (a)), staying at
-- its largest.
abbrev pub EverySendToFull : Type 0
EverySendToFull =
    (t : List ℕ) (c : Call) (e message : ℕ)
    → Accepted t
    → decide t c ≡ sends e message
    → has_space (endpoint t e) ≡ false
    → SentToFull t (step t c) (endpoint_at (domains t) e) (waiting (endpoint t e)) (min (lost (endpoint t e) + 1) most_lost) message

-- Likewise: the oldest of count messages leaves, the others move up by one slot, the slot that comes free is empty, waiting falls
-- by 1, and every other word of the table stays, the lost count too.
pub record TakenOut (t t' : List ℕ) (p count : ℕ) : Type 0 where
  pub waiting : get_or t' (p + 2) 0 ≡ word 5 (count - 1)
  pub moved : (i : ℕ) → i + 1 < count → get_or t' (p + (4 + i)) 0 ≡ get_or t (p + (5 + i)) 0
  pub freed : get_or t' (p + (3 + count)) 0 ≡ empty_slot
  pub before : (i : ℕ) → (i ≡ p + 2 → ⊥) → i < p + 4 → get_or t' i 0 ≡ get_or t i 0
  pub later : (i : ℕ) → p + (4 + count) ≤ i → get_or t' i 0 ≡ get_or t i 0

-- "A receive lowers waiting by 1, and the slot that comes free is F0000000; what a row doesn't name stays"
-- (document 01, 'The striking rule').
abbrev pub EveryReceiveTakesOut : Type 0
EveryReceiveTakesOut =
    (t : List ℕ) (c : Call) (e : ℕ)
    → Accepted t
    → decide t c ≡ receives e
    → TakenOut t (step t c) (endpoint_at (domains t) e) (waiting (endpoint t e))

-- No other call alters an endpoint: one that is neither an unrefused send to it nor an unrefused receive from it leaves its twelve
-- words.
abbrev pub EveryOtherLeavesQueue : Type 0
EveryOtherLeavesQueue =
    (t : List ℕ) (c : Call) (e : ℕ)
    → Accepted t
    → e < endpoints t
    → ((message : ℕ) → decide t c ≡ sends e message → ⊥)
    → (decide t c ≡ receives e → ⊥)
    → endpoint (step t c) e ≡ endpoint t e
