-- Over the numbers below k: a test of all of them, those that pass a test, the first that does, a sum, a list, a set of bits.
use Rattle.std.specs.Prelude.{ℕ, zero, suc, ◌+◌, ◌/◌, ◌%◌, ◌^◌, Bool, true, cond, ◌&&◌, List, [], ◌∷◌, ◌++◌, eqb}
use Rattle.std.proofs.Math.Option.{Option, none, some}

-- p holds of every number below k
unfoldable pub all_below : ℕ → (ℕ → Bool) → Bool
all_below zero p = true
all_below (suc k) p = all_below k p && p k

-- the numbers below k of which p holds, lowest first
unfoldable pub numbers_below : ℕ → (ℕ → Bool) → List ℕ
numbers_below zero p = []
numbers_below (suc k) p = numbers_below k p ++ cond (p k) (k ∷ []) []

-- the lowest number below k of which p holds
unfoldable pub first_below : ℕ → (ℕ → Bool) → Option ℕ
first_below zero p = none
first_below (suc k) p = elim (first_below k p) [ none ↦ cond (p k) (some k) none | some i ↦ some i ]

-- f 0 + f 1 + .. + f (k - 1)
unfoldable pub sum_below : ℕ → (ℕ → ℕ) → ℕ
sum_below zero f = 0
sum_below (suc k) f = sum_below k f + f k

-- f 0, f 1, .., f (k - 1)
unfoldable pub words_below : ℕ → (ℕ → ℕ) → List ℕ
words_below zero f = []
words_below (suc k) f = words_below k f ++ (f k ∷ [])

-- the number in which bit i is set for each i below k of which p holds, and no other bit
unfoldable pub bits_below : ℕ → (ℕ → Bool) → ℕ
bits_below k p = sum_below k (λ i. cond (p i) (2 ^ i) 0)

-- bit i of a number is set
unfoldable pub has_bit : ℕ → ℕ → Bool
has_bit w i = eqb (w / 2 ^ i % 2) 1
