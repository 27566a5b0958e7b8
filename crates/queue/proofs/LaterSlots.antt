-- The waiting messages move up and the slots from the waiting count on stay (specs/LaterSlots): of any words that a receive is
-- done with, and in the rows.
-- Assumes nothing.
use Prim.Native.Nat.{ℕ, ◌+◌, ◌-◌}
use mathlib.Core.Path.{◌≡◌, refl, sym, ap, subst, ◌∙◌}
use mathlib.Core.Logic.{◌≢◌}
use mathlib.Core.List.{◌∷◌, ◌++◌}
use native.Mathlib.Omega.{arith}
use lib.ListN.{length, get_or, take, drop, length-drop}
use lib.Seq.{length-take-le, drop-drop, drop-append-add}
use Rattle.machine.specs.Queue.{waiting, empty_slot, received}
use Rattle.machine.proofs.Everything.{everything}
use Rattle.machine.proofs.Queue.{received-drop, received-length, received-identity, received-count, received-before, received-moved, received-freed}
use Rattle.queue.specs.Queue.{receivable, left_by_receive}
use Rattle.queue.specs.LaterSlots.{LaterSlotsStay, MovedUp, WaitingMoveUp, EveryReceive, receive_rows}
use Rattle.queue.proofs.Laws.{may_receive, received-there}

pub later-slots-stay : LaterSlotsStay
later-slots-stay q h =
    let may = may_receive q h in
    let left = waiting q - 1 in
    let moved = take left (drop 5 q) in
    let all : waiting q ≡ length moved + 1 = omega (arith, length-take-le left (drop 5 q) (rw length-drop (omega arith))) in
    ap (drop (4 + waiting q)) (sym (received-there q h))
    ∙ sym (drop-drop (waiting q) 4 (received q))
    ∙ ap (drop (waiting q)) (received-drop q may.twelve (λ none. omega arith) may.slots)
    ∙ ap (λ (k : ℕ). drop k (moved ++ (empty_slot ∷ drop (4 + waiting q) q))) all
    ∙ drop-append-add moved (empty_slot ∷ drop (4 + waiting q) q) 1

pub waiting-move-up : WaitingMoveUp
waiting-move-up q h =
    let may = may_receive q h in
    let some : waiting q ≢ 0 = λ none. omega (arith, may.some) in
    subst (MovedUp q) (received-there q h)
    (record {
      size = received-length q may.twelve some may.slots;
      identity = received-identity q may.twelve some may.slots;
      count = received-count q may.twelve some may.slots;
      lost = received-before q may.twelve some may.slots 3 (λ e. omega arith) (omega arith);
      moved =
          λ i l.
          let next : 4 + (i + 1) ≡ 5 + i = omega arith in
          received-moved q may.twelve some may.slots i (omega arith) ∙ ap (λ (k : ℕ). get_or q k 0) next;
      freed =
          let at : 3 + waiting q ≡ 4 + (waiting q - 1) = omega (arith, may.some) in
          ap (λ (k : ℕ). get_or (received q) k 0) at ∙ received-freed q may.twelve some may.slots;
    })

pub every-receive : EveryReceive receive_rows
unfolding everything receivable left_by_receive
every-receive = (refl, (refl, (refl, (refl, (refl, (refl, (refl, tt)))))))
