-- What is answered and left, by the decision on a call. Assumes nothing.
use mathlib.Core.Path.{◌≡◌, refl, sym, ap, ap₂, subst, ◌∙◌}
use mathlib.Core.List.{List, [], ◌∷◌, ◌++◌}
use Prim.Native.Nat.{ℕ, ◌+◌, ◌-◌, ◌*◌, ◌%◌}
use lib.ListN.{get_or, take, drop}
use Rattle.std.specs.Prelude.{Result, Ok, Err}
use Rattle.machine.specs.Call.{Call.one}
use Rattle.machine.specs.Machine as machine
use Rattle.machine.specs.Machine.{Decision, code, answer_word}
use Rattle.calls.specs.Number.{number_of}
use Rattle.calls.specs.declared.Refusal.{Refusal}
use Rattle.ring.specs.Ring.{message_at, lost_count, ring_sent, ring_take, of_twelve}
use Rattle.working_theory.specs.State.{ring_at, with_ring, first_from, second_from, answer_from, effect_from, rings_after}
use Rattle.working_endpoint_calls.specs.Outcome.{RingOutcome, RingsOutcome}
use Rattle.working_endpoint_calls.proofs.Parts.{lent, back, same_back}

module _ (d : Decision) (rings : List ℕ) where
  pub queue-refused : (k : Refusal) → machine.refused (number_of k) ≡ d → RingsOutcome d rings (Err k) rings
  unfolding answer_from first_from second_from code rings_after effect_from
  queue-refused k is = subst (λ (x : Decision). RingsOutcome x rings (Err k) rings) is (record { answer = λ w. refl; left = refl })

  pub queue-sent :
      (e message : ℕ) (rings' : List ℕ)
      → machine.sends e message ≡ d
      → rings' ≡ with_ring rings e (of_twelve (ring_at rings e) (ring_sent (ring_at rings e) message) (ring_at rings e))
      → RingsOutcome d rings (Ok (0, 0)) rings'
  unfolding answer_from first_from second_from code rings_after effect_from
  queue-sent e message rings' is left =
      subst (λ (x : Decision). RingsOutcome x rings (Ok (0, 0)) rings') is (record { answer = λ w. refl; left = left })

  pub queue-received :
      (e x y : ℕ) (rings' : List ℕ)
      → machine.receives e ≡ d
      → x ≡ of_twelve (ring_at rings e) (message_at (ring_at rings e) 0) 0
      → y ≡ of_twelve (ring_at rings e) (lost_count (ring_at rings e)) 0
      → rings' ≡ with_ring rings e (of_twelve (ring_at rings e) (ring_take (ring_at rings e)) (ring_at rings e))
      → RingsOutcome d rings (Ok (x, y)) rings'
  unfolding answer_from first_from second_from code rings_after effect_from
  queue-received e x y rings' is message lost left =
      subst (λ (v : Decision). RingsOutcome v rings (Ok (x, y)) rings') is
      (record { answer = λ w. ap₂ (λ (i j : ℕ). answer_word (one w) 0 ∷ i ∷ j ∷ []) message lost; left = left })

-- the same of a ring alone
module _ (d : Decision) (e : ℕ) (r : List ℕ) where
  pub ring-refused : (k : Refusal) → machine.refused (number_of k) ≡ d → RingOutcome d e r (Err k) r
  ring-refused k is =
      record {
        among = λ rings at. subst (λ (x : List ℕ). RingsOutcome d rings (Err k) x) (sym (same_back rings e) ∙ ap (with_ring rings e) at)
            (queue-refused d rings k is);
      }

  pub ring-sent :
      (message : ℕ) (r' : List ℕ)
      → machine.sends e message ≡ d
      → r' ≡ of_twelve r (ring_sent r message) r
      → RingOutcome d e r (Ok (0, 0)) r'
  ring-sent message r' is left =
      record {
        among = λ rings at. queue-sent d rings e message (with_ring rings e r') is
            (ap (with_ring rings e) (left ∙ ap (λ (x : List ℕ). of_twelve x (ring_sent x message) x) (sym at)));
      }

  pub ring-received :
      (x y : ℕ) (r' : List ℕ)
      → machine.receives e ≡ d
      → x ≡ of_twelve r (message_at r 0) 0
      → y ≡ of_twelve r (lost_count r) 0
      → r' ≡ of_twelve r (ring_take r) r
      → RingOutcome d e r (Ok (x, y)) r'
  ring-received x y r' is message lost left =
      record {
        among = λ rings at. queue-received d rings e x y (with_ring rings e r') is
            (message ∙ ap (λ (v : List ℕ). of_twelve v (message_at v 0) 0) (sym at))
            (lost ∙ ap (λ (v : List ℕ). of_twelve v (lost_count v) 0) (sym at))
            (ap (with_ring rings e) (left ∙ ap (λ (v : List ℕ). of_twelve v (ring_take v) v) (sym at)));
      }

-- a call served by one decision is served by an equal one
pub so-decided :
    (d d' : Decision) (rings : List ℕ) (outcome : Result (ℕ × ℕ) Refusal) (rings' : List ℕ)
    → d ≡ d'
    → RingsOutcome d rings outcome rings'
    → RingsOutcome d' rings outcome rings'
so-decided d d' rings outcome rings' is served = subst (λ (x : Decision). RingsOutcome x rings outcome rings') is served

-- a call served on a ring is served on the rings that it was lent from
pub ring-back :
    (rings : List ℕ) (e : ℕ) (d d' : Decision) (outcome : Result (ℕ × ℕ) Refusal) (r' : List ℕ)
    → d ≡ d'
    → RingOutcome d e (take (12 * e + 12 - 12 * e) (drop (12 * e) rings)) outcome r'
    → RingsOutcome d' rings outcome (take (12 * e) rings ++ (r' ++ drop (12 * e + 12 - 12 * e) (drop (12 * e) rings)))
ring-back rings e d d' outcome r' is served =
    so-decided d d' rings outcome _ is
    (subst (λ (x : List ℕ). RingsOutcome d rings outcome x) (sym (back rings e r')) (served.among rings (sym (lent rings e))))

-- an endpoint that was found: its index is shown
pub looked-up :
    (e : ℕ) (d : Decision) (rows : List (List ℕ)) (rings owned : List ℕ)
    → machine.looked_up e ≡ d
    → (first : ℕ) → answer_word (one first) 0 ∷ e ∷ 0 ∷ [] ≡ answer_from first rows rings owned d
unfolding answer_from first_from second_from code
looked-up e d rows rings owned is first = ap (answer_from first rows rings owned) is

-- the endpoints that a domain owns
pub listed :
    (u : ℕ) (d : Decision) (rows : List (List ℕ)) (rings owned : List ℕ)
    → machine.lists_endpoints u ≡ d
    → (first : ℕ) → answer_word (one first) 0 ∷ get_or owned (u % 16) 0 ∷ 0 ∷ [] ≡ answer_from first rows rings owned d
unfolding answer_from first_from second_from code
listed u d rows rings owned is first = ap (answer_from first rows rings owned) is
