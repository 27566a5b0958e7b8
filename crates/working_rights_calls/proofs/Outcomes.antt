-- What is answered and left, by the decision on a call. Assumes nothing.
use mathlib.Core.Path.{◌≡◌, refl, ap, ap₂, subst, ◌∙◌}
use mathlib.Core.List.{List, [], ◌∷◌}
use Prim.Native.Nat.{ℕ}
use Rattle.std.specs.Prelude.{Ok, Err}
use Rattle.machine.specs.Right.{adds, without}
use Rattle.machine.specs.Call.{Call.one}
use Rattle.machine.specs.Machine as machine
use Rattle.machine.specs.Machine.{Decision, code, answer_word, Effect.new_rights}
use Rattle.calls.specs.Number.{number_of}
use Rattle.calls.specs.declared.Refusal.{Refusal}
use Rattle.answers.specs.Answer.{answer_of}
use Rattle.holders.specs.Noted.{holders_after}
use Rattle.rights_matrix.specs.Rows.{held_in}
use Rattle.working_theory.specs.State.{row_bits, first_from, second_from, answer_from, effect_from, rows_after}
use Rattle.working_rights_calls.specs.Outcome.{RightsOutcome}

-- the rights of a domain
pub listed :
    (u : ℕ) (d : Decision) (x y : ℕ) (rows : List (List ℕ)) (rings owned : List ℕ)
    → machine.lists_rights u ≡ d
    → x ≡ row_bits rows u 0
    → y ≡ row_bits rows u 8
    → (first : ℕ) → answer_of first (Ok (x, y)) ≡ answer_from first rows rings owned d
unfolding answer_from first_from second_from code
listed u d x y rows rings owned is low high first =
    subst (λ (v : Decision). answer_of first (Ok (x, y)) ≡ answer_from first rows rings owned v) is
    (ap₂ (λ (i j : ℕ). answer_word (one first) 0 ∷ i ∷ j ∷ []) low high)

module _ (d : Decision) (rows : List (List ℕ)) (holders : List ℕ) where
  pub rights-refused : (k : Refusal) → machine.refused (number_of k) ≡ d → RightsOutcome d rows holders (Err k) rows holders
  unfolding answer_from first_from second_from code rows_after holders_after effect_from
  rights-refused k is = subst (λ (x : Decision). RightsOutcome x rows holders (Err k) rows holders) is (record { answer = λ w. refl; left = refl; noted = refl })

  -- a row is altered, whichever of the calls did it
  module _ (h g s : ℕ) (rows' : List (List ℕ)) (holders' : List ℕ) (left : rows' ≡ rows_after rows (new_rights h g s)) (noted : holders' ≡ holders_after holders (new_rights h g s)) where
    altered : (x : Decision) → x ≡ d → ((w : ℕ) → answer_of w (Ok (0, 0)) ≡ answer_from w rows [] [] x) → new_rights h g s ≡ effect_from rows [] x → RightsOutcome d rows holders (Ok (0, 0)) rows' holders'
    altered x is plain same =
        subst (λ (v : Decision). RightsOutcome v rows holders (Ok (0, 0)) rows' holders') is
        (record { answer = plain; left = left ∙ ap (rows_after rows) same; noted = noted ∙ ap (holders_after holders) same })

    pub granted : (r : ℕ) → machine.grants g h r ≡ d → s ≡ adds (held_in rows h g) r → RightsOutcome d rows holders (Ok (0, 0)) rows' holders'
    unfolding answer_from first_from second_from code effect_from
    granted r is new = altered (machine.grants g h r) is (λ w. refl) (ap (new_rights h g) new)

    pub removed : (r : ℕ) → machine.removes g h r ≡ d → s ≡ without (held_in rows h g) r → RightsOutcome d rows holders (Ok (0, 0)) rows' holders'
    unfolding answer_from first_from second_from code effect_from
    removed r is new = altered (machine.removes g h r) is (λ w. refl) (ap (new_rights h g) new)

    pub revoked : (r : ℕ) → machine.revokes g h r ≡ d → s ≡ without (held_in rows h g) r → RightsOutcome d rows holders (Ok (0, 0)) rows' holders'
    unfolding answer_from first_from second_from code effect_from
    revoked r is new = altered (machine.revokes g h r) is (λ w. refl) (ap (new_rights h g) new)
