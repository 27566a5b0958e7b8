-- What a call leaves once it is decided on: of arbitrary words as the table and as the holders (document 01, 'The calls').
use Rattle.std.specs.Prelude.{ℕ, ◌≡◌, List, Result}
use Rattle.machine.specs.Call.{Call.one}
use Rattle.machine.specs.Machine.{Decision, effect, after, answer_to}
use Rattle.calls.specs.declared.Refusal.{Refusal}
use Rattle.answers.specs.Answer.{answer_of}
use Rattle.holders.specs.Noted.{holders_after}

-- the decision d on a call, on the table t with the words p for the holders: with any first word w its result makes the call's answer
-- words, and it leaves the table t' and the words p'
pub record CallOutcome (t p : List ℕ) (d : Decision) (r : Result (ℕ × ℕ) Refusal) (t' p' : List ℕ) : Type 0 where
  pub answer : (w : ℕ) → answer_of w r ≡ answer_to t (one w) d
  pub table : t' ≡ after t (effect t d)
  pub holders : p' ≡ holders_after p (effect t d)
