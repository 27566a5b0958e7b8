-- A send and a receive, of arbitrary words: which words they are done with, and what they leave of them
-- (document 01, 'The calls'; document 02, (a) and (d)).
use Rattle.std.specs.Prelude.{ℕ, ◌<◌, ◌≤◌, ◌≡◌, Bool, cond, ◌&&◌, List, eqb, leb, length}
use Rattle.machine.specs.Word.{most_payload}
use Rattle.machine.specs.Queue.{capacity, waiting, sent, received}

-- twelve words with a capacity of 1 to 8 and at most 8 waiting, and a message of 28 bits
unfoldable pub sendable : List ℕ → ℕ → Bool
sendable q message =
    eqb (length q) 12 && leb 1 (capacity q) && leb (capacity q) 8 && leb (waiting q) 8 && leb message most_payload

-- a send; other words stay as they are
unfoldable pub left_by_send : List ℕ → ℕ → List ℕ
left_by_send q message = cond (sendable q message) (sent q message) q

-- twelve words with 1 to 8 waiting, whatever the slots from the waiting count on hold
unfoldable pub receivable : List ℕ → Bool
receivable q = eqb (length q) 12 && leb 1 (waiting q) && leb (waiting q) 8

-- a receive; other words stay as they are
unfoldable pub left_by_receive : List ℕ → List ℕ
left_by_receive q = cond (receivable q) (received q) q

-- the precondition of `send_with_space`: a slot is left for the message
pub record QueueRoom (q : List ℕ) (message : ℕ) : Type 0 where
  pub twelve : length q ≡ 12
  pub room : waiting q < 8
  pub small : message ≤ most_payload

-- the precondition of `take_oldest`: one waits, and all that wait are in slots
pub record MayReceive (q : List ℕ) : Type 0 where
  pub twelve : length q ≡ 12
  pub some : 1 ≤ waiting q
  pub slots : waiting q ≤ 8

-- the precondition of `send_to_full`: an oldest message that can be pushed out, and a new one of 28 bits
pub record MayPushOut (q : List ℕ) (message : ℕ) : Type 0 where
  pub oldest : MayReceive q
  pub small : message ≤ most_payload
