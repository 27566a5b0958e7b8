-- What a call about an endpoint is answered, and which rings it leaves, by the decision on it (document 02 (l)).
use Rattle.std.specs.Prelude.{◌≡◌, List, [], ℕ, Result}
use Rattle.machine.specs.Machine.{Decision}
use Rattle.calls.specs.declared.Refusal.{Refusal}
use Rattle.answers.specs.Answer.{answer_of}
use Rattle.working_theory.specs.State.{ring_at, with_ring, answer_from, effect_from, rings_after}

-- a call with the decision d has this outcome, which is its answer whatever its first word, and leaves the rings rings'
pub record RingsOutcome (d : Decision) (rings : List ℕ) (outcome : Result (ℕ × ℕ) Refusal) (rings' : List ℕ) : Type 0 where
  pub answer : (first : ℕ) → answer_of first outcome ≡ answer_from first [] rings [] d
  pub left : rings' ≡ rings_after rings (effect_from [] rings d)

-- The ring r of the endpoint e served alone: among whichever rings it is, such a call has this outcome, and leaves the rings with
-- the ring r' in its place.
pub record RingOutcome (d : Decision) (e : ℕ) (r : List ℕ) (outcome : Result (ℕ × ℕ) Refusal) (r' : List ℕ) : Type 0 where
  pub among : (rings : List ℕ) → ring_at rings e ≡ r → RingsOutcome d rings outcome (with_ring rings e r')
