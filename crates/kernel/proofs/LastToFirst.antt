-- The first index that passes a test, searched for from the last to the first. Assumes nothing.
use mathlib.Core.Path.{◌≡◌, refl, sym, ap, subst, ◌∙◌}
use mathlib.Core.Bool.{Bool, true, false}
use mathlib.Core.Option.{none, some}
use mathlib.Core.Logic.{⊎_elim}
use Prim.Native.Nat.{ℕ, zero, suc, ◌+◌, ◌<◌, ◌≤◌}
use native.Mathlib.Numerals.{add-one}
use native.Mathlib.Omega.{arith}
use Rattle.machine.specs.Below.{first_below}
use Rattle.machine.proofs.Below.{below-or-last}
use Rattle.rules.proofs.Scans.{none_more, found}

-- none passes
none_below : (p : ℕ → Bool) (k : ℕ) → ((i : ℕ) → i < k → p i ≡ false) → first_below k p ≡ none
unfolding first_below
none_below p zero fails = refl
none_below p (suc k) fails =
    ap (λ (i : ℕ). first_below i p) (sym (add-one k))
    ∙ none_more p k (none_below p k (λ i l. fails i (omega arith))) (fails k (omega arith))

-- of the indices from e up to k, x is the first that passes, or k where none does
pub record From (p : ℕ → Bool) (k e x : ℕ) : Type 0 where
  pub most : x ≤ k
  pub least : e ≤ x
  pub fails : (i : ℕ) → e ≤ i → i < x → p i ≡ false
  pub passes : x < k → p x ≡ true

module _ (p : ℕ → Bool) (k : ℕ) where
  pub at_first : From p k k k
  at_first =
      record { most = omega arith; least = omega arith; fails = λ i l r. absurd (omega (arith, l, r)); passes = λ l. absurd (omega (arith, l)) }

  -- one more, which passes
  pub passed : (e d x : ℕ) → From p k e x → d + 1 ≡ e → p d ≡ true → From p k d d
  passed e d x from next is =
      record {
        most = omega (arith, from.most, from.least, next);
        least = omega arith;
        fails = λ i l r. absurd (omega (arith, l, r));
        passes = λ _. is;
      }

  -- one more, which fails
  pub failed : (e d x : ℕ) → From p k e x → d + 1 ≡ e → p d ≡ false → From p k d x
  failed e d x from next is =
      record { most = from.most; least = omega (arith, from.least, next); fails = below; passes = from.passes }
    where
      below : (i : ℕ) → d ≤ i → i < x → p i ≡ false
      below i l r =
          ⊎_elim (λ more. from.fails i (omega (arith, more, next)) r) (λ same. subst (λ (j : ℕ). p j ≡ false) same is)
          (below-or-last i d (omega (arith, l)))

  -- all are looked at
  pub all-some : (x : ℕ) → From p k 0 x → x < k → first_below k p ≡ some x
  all-some x from l = found p k x (none_below p x (λ i r. from.fails i (omega arith) r)) (from.passes l) l

  pub all_none : (x : ℕ) → From p k 0 x → k ≤ x → first_below k p ≡ none
  all_none x from l = none_below p k (λ i r. from.fails i (omega arith) (omega (arith, r, l)))
