-- The tests of a send and of a receive, built from their parts and split into them, and a send to a full queue in its parts.
-- Assumes nothing.
use Prim.Native.Nat.{ℕ, ◌+◌, ◌≤◌, ◌<◌, min}
use native.Mathlib.Omega.{arith}
use mathlib.Core.Path.{◌≡◌}
use mathlib.Core.Logic.{◌≢◌}
use mathlib.Core.Bool.{true, false, ◌&&◌}
use mathlib.Core.List.{List}
use borrow.Author.Tests.{eq-eqb, le-leb, eqb-true, leb-true, lt-ltb, le-ltb}
use lib.Dec.{eqb, leb}
use lib.ListN.{length, set}
use Rattle.machine.specs.Word.{most_payload, word}
use Rattle.machine.specs.Queue.{capacity, waiting, lost, most_lost, has_space, send_with_space, send_to_full, sent, received}
use Rattle.machine.proofs.Bools.{and_left, and_right}
use Rattle.machine.proofs.Queue.{received-length, received-waiting}
use Rattle.queue.specs.Queue.{sendable, left_by_send, receivable, left_by_receive, QueueRoom, MayReceive, MayPushOut}

-- ---- for callers: words that they know to pass the test
pub may-be-sent : (q : List ℕ) (m : ℕ) → length q ≡ 12 → 1 ≤ capacity q → capacity q ≤ 8 → waiting q ≤ 8 → m ≤ most_payload → sendable q m ≡ true
unfolding sendable
may-be-sent q m twelve holds slots most small =
    rw (eq-eqb _ _ twelve, le-leb _ _ holds, le-leb _ _ slots, le-leb _ _ most, le-leb _ _ small)

pub may-be-received : (q : List ℕ) → length q ≡ 12 → 1 ≤ waiting q → waiting q ≤ 8 → receivable q ≡ true
unfolding receivable
may-be-received q twelve some slots = rw (eq-eqb _ _ twelve, le-leb _ _ some, le-leb _ _ slots)

-- ---- what the test of a send says, and what a send is on either side of it
pub record MaySend (q : List ℕ) (message : ℕ) : Type 0 where
  pub twelve : length q ≡ 12
  pub holds : 1 ≤ capacity q
  pub slots : capacity q ≤ 8
  pub most : waiting q ≤ 8
  pub small : message ≤ most_payload

pub may_send : (q : List ℕ) (m : ℕ) → sendable q m ≡ true → MaySend q m
unfolding sendable
may_send q m h =
    let twelve = eqb (length q) 12 in
    let holds = leb 1 (capacity q) in
    let slots = leb (capacity q) 8 in
    let most = leb (waiting q) 8 in
    let four = and_left (twelve && holds && slots && most) (leb m most_payload) h in
    let three = and_left (twelve && holds && slots) most four in
    let two = and_left (twelve && holds) slots three in
    record {
      twelve = eqb-true _ _ (and_left twelve holds two);
      holds = leb-true _ _ (and_right twelve holds two);
      slots = leb-true _ _ (and_right (twelve && holds) slots three);
      most = leb-true _ _ (and_right (twelve && holds && slots) most four);
      small = leb-true _ _ (and_right (twelve && holds && slots && most) (leb m most_payload) h);
    }

pub not_sent : (q : List ℕ) (m : ℕ) → sendable q m ≡ false → q ≡ left_by_send q m
unfolding left_by_send
not_sent q m h = rw h

module _ (q : List ℕ) (m : ℕ) (passed : sendable q m ≡ true) where
  pub sent_with_space : waiting q < capacity q → send_with_space q m ≡ left_by_send q m
  unfolding left_by_send sent has_space
  sent_with_space space = rw (passed, lt-ltb _ _ space)

  pub sent_to_full : capacity q ≤ waiting q → send_to_full q m ≡ left_by_send q m
  unfolding left_by_send sent has_space
  sent_to_full full = rw (passed, le-ltb _ _ full)

-- ---- a send to a full queue: once the oldest message is out there is space for the new one,
pub room-made : (q : List ℕ) (m : ℕ) → MayPushOut q m → QueueRoom (received q) m
room-made q m may =
    let some : waiting q ≢ 0 = omega (arith, may.oldest.some) in
    record {
      twelve = received-length q may.oldest.twelve some may.oldest.slots;
      room = omega (arith, received-waiting q may.oldest.twelve some may.oldest.slots, may.oldest.slots);
      small = may.small;
    }

-- and the three writes leave what the machine's send leaves
pub pushed-out : (q p r : List ℕ) (m n : ℕ) → p ≡ received q → r ≡ send_with_space p m → n ≡ min (lost q + 1) most_lost → set r 3 (word 6 n) ≡ send_to_full q m
unfolding send_to_full
pushed-out q p r m n took sent raised = rw (sent, took, raised)

-- ---- what the test of a receive says, and what a receive is on either side of it
pub may_receive : (q : List ℕ) → receivable q ≡ true → MayReceive q
unfolding receivable
may_receive q h =
    let twelve = eqb (length q) 12 in
    let some = leb 1 (waiting q) in
    let both = and_left (twelve && some) (leb (waiting q) 8) h in
    record {
      twelve = eqb-true _ _ (and_left twelve some both);
      some = leb-true _ _ (and_right twelve some both);
      slots = leb-true _ _ (and_right (twelve && some) (leb (waiting q) 8) h);
    }

pub received-there : (q : List ℕ) → receivable q ≡ true → received q ≡ left_by_receive q
unfolding left_by_receive
received-there q h = rw h
