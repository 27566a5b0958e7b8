-- A list that is filled from the front: the elements at the first i places are f 0, f 1 and so on, the others are as they were.
-- Assumes nothing.
use mathlib.Core.Path.{◌≡◌, refl, sym, ◌∙◌}
use mathlib.Core.Logic.{⊎_elim}
use mathlib.Core.List.{List}
use Prim.Native.Nat.{ℕ, ◌+◌, ◌<◌, ◌≤◌}
use native.Mathlib.Omega.{arith}
use lib.ListN.{length, get_or, set, length-set}
use lib.Seq.{get_or-set_same, get_or-set_other, ext_get_or}
use Rattle.machine.specs.Below.{words_below}
use Rattle.machine.proofs.Below.{below-or-last, words-length, words-at}

pub record Filling {A : Type 0} (d : A) (f : ℕ → A) (xs₀ xs : List A) (i : ℕ) : Type 0 where
  pub size : length xs ≡ length xs₀
  pub done : (j : ℕ) → j < i → get_or xs j d ≡ f j
  pub rest : (j : ℕ) → i ≤ j → get_or xs j d ≡ get_or xs₀ j d

module _ {A : Type 0} (d : A) (f : ℕ → A) (xs₀ : List A) where
  pub filling-start : Filling d f xs₀ xs₀ 0
  filling-start = record { size = refl; done = λ j l. absurd (omega arith); rest = λ j l. refl }

  pub filling-next : (xs : List A) (i : ℕ) (x : A) → Filling d f xs₀ xs i → i < length xs₀ → x ≡ f i → Filling d f xs₀ (set xs i x) (i + 1)
  filling-next xs i x s l e =
      record {
        size = length-set xs i x ∙ s.size;
        done =
            λ j b.
            ⊎_elim (λ less. get_or-set_other xs i j x d (λ q. omega arith) ∙ s.done j less)
            (λ is. rw is (get_or-set_same xs i x d (omega (arith, s.size)) ∙ e))
            (below-or-last i j (omega arith));
        rest = λ j b. get_or-set_other xs i j x d (λ q. omega arith) ∙ s.rest j (omega arith);
      }

-- words that are filled to their end
pub words-filled : (f : ℕ → ℕ) (ws₀ ws : List ℕ) (i : ℕ) → Filling 0 f ws₀ ws i → length ws₀ ≤ i → ws ≡ words_below (length ws₀) f
words-filled f ws₀ ws i s l =
    ext_get_or 0 ws (words_below (length ws₀) f) (s.size ∙ sym (words-length (length ws₀) f))
    (λ j b.
    let in₀ : j < length ws₀ = omega (arith, s.size) in
    s.done j (omega arith) ∙ sym (words-at (length ws₀) f j 0 in₀))
