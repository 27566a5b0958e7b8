-- The answer to a call that is refused. Assumes nothing.
use mathlib.Core.Path.{◌≡◌, subst}
use mathlib.Core.List.{List, [], ◌∷◌}
use Prim.Native.Nat.{ℕ}
use Rattle.machine.specs.Call.{Call.one}
use Rattle.machine.specs.Machine as machine
use Rattle.machine.specs.Machine.{Decision, code, answer_word}
use Rattle.working_theory.specs.State.{first_from, second_from, answer_from}

-- the answer to a refused call has the refusal's code, and nothing else
pub refused-answer :
    (d : Decision) (k w : ℕ) (rows : List (List ℕ)) (rings owned words : List ℕ)
    → machine.refused k ≡ d
    → words ≡ answer_word (one w) k ∷ 0 ∷ 0 ∷ []
    → words ≡ answer_from w rows rings owned d
unfolding answer_from first_from second_from code
refused-answer d k w rows rings owned words is reported =
    subst (λ (x : Decision). words ≡ answer_from w rows rings owned x) is reported
