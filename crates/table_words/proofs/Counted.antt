-- The slots are tested by the waiting word where the machine tests them by the waiting count. For a valid waiting word the
-- two agree, and any other is refused. Assumes nothing.
use mathlib.Core.Path.{◌≡◌, refl, ap}
use mathlib.Core.Bool.{Bool, true, false, ◌&&◌}
use mathlib.Core.List.{List}
use Prim.Native.Nat.{ℕ, ◌+◌, ◌-◌, ◌%◌}
use native.Mathlib.Omega.{arith}
use borrow.Author.Tests.{eqb-true}
use lib.Dec.{eqb, leb}
use lib.ListN.{get_or}
use Rattle.machine.specs.Below.{all_below}
use Rattle.machine.specs.Word.{word, kind, payload}
use Rattle.machine.specs.Queue.{capacity, waiting}
use Rattle.machine.specs.Check.{waiting_word_ok, lost_word_ok, slot_word_ok, queue_ok}
use Rattle.machine.proofs.Bools.{and_left}

-- the count of a valid waiting word
pub right-count : (most w : ℕ) → waiting_word_ok most w ≡ true → w - word 5 0 ≡ payload w
unfolding waiting_word_ok
right-count most w h = let k = eqb-true (kind w) 5 (and_left (eqb (kind w) 5) (leb (payload w) most) h) in omega arith

-- the last test matters only where the first one holds
pub behind : (a l : Bool) {s t : Bool} → (a ≡ true → s ≡ t) → (a && l && s) ≡ (a && l && t)
behind true l f = ap (λ (x : Bool). true && l && x) (f refl)
behind false l f = refl

pub by_waiting : (q : List ℕ) → (waiting_word_ok (get_or q 1 0 % 256) (get_or q 2 0) && lost_word_ok (get_or q 3 0) && all_below 8 (λ i. slot_word_ok (get_or q 2 0 - word 5 0) i (get_or q (4 + i) 0))) ≡ queue_ok q
unfolding queue_ok capacity waiting
by_waiting q =
    behind (waiting_word_ok (get_or q 1 0 % 256) (get_or q 2 0)) (lost_word_ok (get_or q 3 0))
    (λ h. ap (λ (c : ℕ). all_below 8 (λ i. slot_word_ok c i (get_or q (4 + i) 0))) (right-count (get_or q 1 0 % 256) (get_or q 2 0) h))
