-- A list of words that is too short for an endpoint reads as zeros past its end, and is no endpoint.
-- Assumes nothing.
use mathlib.Core.Path.{◌≡◌}
use mathlib.Core.Bool.{false, ◌&&◌, and-false}
use mathlib.Core.List.{List}
use Prim.Native.Nat.{ℕ, ◌+◌, ◌<◌}
use native.Mathlib.Omega.{arith}
use lib.ListN.{length, get_or, get_or-eq_default}
use Rattle.machine.specs.Check.{name_word_ok, info_word_ok, waiting_word_ok, lost_word_ok, slot_word_ok, identity_ok, queue_ok, endpoint_ok}
use Rattle.machine.specs.Queue.{capacity, waiting}
use Rattle.machine.proofs.Below.{all-fails}

pub short_identity : (n : ℕ) (q : List ℕ) → length q < 2 → identity_ok n q ≡ false
unfolding identity_ok info_word_ok
short_identity n q h = rw (get_or-eq_default q 0 {n = 1} (omega arith)) (and-false (name_word_ok (get_or q 0 0)))

-- the last slot is no slot
last-slot : (q : List ℕ) → length q < 12 → slot_word_ok (waiting q) 7 (get_or q 11 0) ≡ false
unfolding slot_word_ok
last-slot q h = rw (get_or-eq_default q 0 {n = 11} (omega arith))

pub short_queue : (q : List ℕ) → length q < 12 → queue_ok q ≡ false
unfolding queue_ok
short_queue q h =
    rw (all-fails 8 (λ i. slot_word_ok (waiting q) i (get_or q (4 + i) 0)) 7 (omega arith) (last-slot q h))
    (and-false (waiting_word_ok (capacity q) (get_or q 2 0) && lost_word_ok (get_or q 3 0)))

pub short_endpoint : (n : ℕ) (q : List ℕ) → length q < 12 → endpoint_ok n q ≡ false
unfolding endpoint_ok
short_endpoint n q h = rw (short_queue q h) (and-false (identity_ok n q))
