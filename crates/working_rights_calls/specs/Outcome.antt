-- What a call that alters rights is answered, and which rows and holders it leaves, by the decision on it (document 02 (l)).
use Rattle.std.specs.Prelude.{◌≡◌, List, [], ℕ, Result}
use Rattle.machine.specs.Machine.{Decision}
use Rattle.calls.specs.declared.Refusal.{Refusal}
use Rattle.answers.specs.Answer.{answer_of}
use Rattle.holders.specs.Noted.{holders_after}
use Rattle.working_theory.specs.State.{answer_from, effect_from, rows_after}

-- a call with the decision d has this outcome, which is its answer whatever its first word, and leaves the rows rows' and the
-- holders holders'
pub record RightsOutcome (d : Decision) (rows : List (List ℕ)) (holders : List ℕ) (outcome : Result (ℕ × ℕ) Refusal) (rows' : List (List ℕ)) (holders' : List ℕ) : Type 0 where
  pub answer : (first : ℕ) → answer_of first outcome ≡ answer_from first rows [] [] d
  pub left : rows' ≡ rows_after rows (effect_from rows [] d)
  pub noted : holders' ≡ holders_after holders (effect_from rows [] d)
