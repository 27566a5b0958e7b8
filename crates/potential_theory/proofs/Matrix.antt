-- Laws of an access matrix (specs/Closure): its cells when one is written, and the sum of them. Assumes nothing.
use mathlib.Core.Path.{◌≡◌, ap, ◌∙◌}
use mathlib.Core.Bool.{true}
use mathlib.Core.Logic.{◌⊎◌, ◌⊎◌.inl, ◌⊎◌.inr, ⊎_elim}
use mathlib.Core.List.{List, [], ◌∷◌}
use Prim.Native.Nat.{ℕ, zero, suc, ◌+◌, ◌*◌, ◌^◌, ◌<◌, ◌≤◌}
use native.Mathlib.Nat.{not-suc-le-zero, suc-mul}
use native.Mathlib.Omega.{arith}
use borrow.Author.Tests.{ltb-true, ltb-false}
use lib.Arith.{digits_lt}
use lib.Dec.{ltb}
use lib.ListN.{length, get_or, set, length-set}
use lib.Seq.{get_or-set_same, get_or-set_other}
use Rattle.machine.specs.Word.{payload}
use Rattle.machine.specs.Right.{all_rights, holds}
use Rattle.machine.specs.Table.{domains, rights, rights_word}
use Rattle.machine.specs.Check.{rights_ok, Accepted}
use Rattle.machine.proofs.Bools.{either}
use Rattle.machine.proofs.Below.{all-at, words-length, words-at, words-past}
use Rattle.machine.proofs.Right.{rights-within}
use Rattle.machine.proofs.Table.{pair-either, rights-apart}
use Rattle.machine.proofs.Accepted.{parts}
use Rattle.potential_theory.specs.Closure.{Proper, cell_at, cell, matrix_of, total}

-- each right of the matrix m is in the matrix m'
abbrev pub Contains : ℕ → List ℕ → List ℕ → Type 0
Contains n m m' =
    (h g k : ℕ) → h < n → g < n → holds (cell n m h g) (2 ^ k) ≡ true → holds (cell n m' h g) (2 ^ k) ≡ true

-- ---- a cell is written

module _ (n : ℕ) (m : List ℕ) (size : length m ≡ n * n) (h g : ℕ) (lh : h < n) (lg : g < n) where
  pub cell_below : cell_at n h g < length m
  cell_below = omega (arith, digits_lt lh lg)

  pub cell_set : (x : ℕ) → cell n (set m (cell_at n h g) x) h g ≡ x
  unfolding cell
  cell_set x = get_or-set_same m (cell_at n h g) x 0 cell_below

  pub cell_other :
      (x h' g' : ℕ) → g' < n → (h' ≡ h → g' ≡ g → ⊥) → cell n (set m (cell_at n h g) x) h' g' ≡ cell n m h' g'
  unfolding cell
  cell_other x h' g' lg' other =
      get_or-set_other m (cell_at n h g) (cell_at n h' g') x 0
      (λ e. let (p, q) = rights-apart n h' g' h g lg' lg (omega arith) in other p q)

  -- a cell is the one written or is as it was
  pub cell-either :
      (x h' g' : ℕ)
      → g' < n
      → ((h' ≡ h) × (g' ≡ g)) ⊎ (cell n (set m (cell_at n h g) x) h' g' ≡ cell n m h' g')
  cell-either x h' g' lg' = ⊎_elim inl (λ other. inr (cell_other x h' g' lg' other)) (pair-either h' g' h g)

set-within : (m : List ℕ) (i x k : ℕ) → ((j : ℕ) → get_or m j 0 ≤ k) → x ≤ k → (j : ℕ) → get_or (set m i x) j 0 ≤ k
set-within [] i x k most l j = most j
set-within (y ∷ m) zero x k most l zero = l
set-within (y ∷ m) zero x k most l (suc j) = most (suc j)
set-within (y ∷ m) (suc i) x k most l zero = most 0
set-within (y ∷ m) (suc i) x k most l (suc j) = set-within m i x k (λ j. most (suc j)) l j

pub set-proper : (n : ℕ) (m : List ℕ) (i x : ℕ) → Proper n m → x ≤ all_rights → Proper n (set m i x)
set-proper n m i x p l =
    record { size = length-set m i x ∙ p.size; within = set-within m i x all_rights p.within l }

-- ---- the sum of all cells

pub total-set : (m : List ℕ) (i x : ℕ) → i < length m → total (set m i x) + get_or m i 0 ≡ total m + x
unfolding total
total-set [] i x l = absurd (not-suc-le-zero l)
total-set (y ∷ m) zero x l = omega arith
total-set (y ∷ m) (suc i) x l = omega (arith, total-set m i x (omega arith))

pub total-most : (m : List ℕ) (k : ℕ) → ((i : ℕ) → get_or m i 0 ≤ k) → total m ≤ length m * k
unfolding total
total-most [] k most = omega arith
total-most (y ∷ m) k most = omega (arith, total-most m k (λ i. most (suc i)), most 0, suc-mul (length m) k)

pub proper-most : (n : ℕ) (m : List ℕ) → Proper n m → total m ≤ n * n * all_rights
proper-most n m p = rw (← p.size) (total-most m all_rights p.within)

-- ---- the matrix of a table

pub matrix-cell : (t : List ℕ) (h g : ℕ) → h < domains t → g < domains t → cell (domains t) (matrix_of t) h g ≡ rights t h g
unfolding cell matrix_of rights rights_word
matrix-cell t h g lh lg = words-at _ _ _ 0 (digits_lt lh lg) ∙ ap (λ i. payload (get_or t i 0)) (omega arith)

pub matrix-proper : (t : List ℕ) → Accepted t → Proper (domains t) (matrix_of t)
unfolding matrix_of rights_ok
matrix-proper t a =
    record {
      size = words-length _ _;
      within =
          λ i.
          ⊎_elim
          (λ l.
          rw (words-at (domains t * domains t) (λ i. payload (get_or t (1 + i) 0)) i 0 (ltb-true _ _ l))
          (rights-within _ (all-at _ _ (parts t a).rights i (ltb-true _ _ l))))
          (λ l.
          rw (words-past (domains t * domains t) (λ i. payload (get_or t (1 + i) 0)) i 0 (ltb-false _ _ l)) (omega arith))
          (either (ltb i (domains t * domains t)));
    }
