-- Laws that the loops cite: a matrix known by its words, the sum of a matrix, and one step more. Assumes nothing.
use mathlib.Core.Path.{◌≡◌, sym, ap, ◌∙◌}
use mathlib.Core.List.{List, [], ◌∷◌}
use Prim.Native.Nat.{ℕ, ◌+◌, ◌<◌}
use native.Mathlib.Numerals.{add-one}
use native.Mathlib.Omega.{arith}
use lib.ListN.{length, get_or}
use Rattle.std.specs.List.{fold, sum}
use Rattle.std.proofs.lemmas.Grind.{same_number_lists}
use Rattle.machine.specs.Below.{words_below}
use Rattle.machine.proofs.Below.{words-length, words-at}
use Rattle.potential_theory.specs.Closure.{steps_below, total}

pub words-of : (f : ℕ → ℕ) (n : ℕ) (ps : List ℕ) → length ps ≡ n → ((k : ℕ) → k < n → get_or ps k 0 ≡ f k) → ps ≡ words_below n f
words-of f n ps size same =
    same_number_lists ps (words_below n f) (size ∙ sym (words-length n f))
    (λ k l. let below : k < n = omega (arith, size) in same k below ∙ sym (words-at n f k 0 below))

fold-total : (a : ℕ) (m : List ℕ) → fold ◌+◌ a m ≡ a + total m
unfolding total
fold-total a [] = omega arith
fold-total a (x ∷ xs) = fold-total (a + x) xs ∙ omega arith

pub sum-total : (m : List ℕ) → sum m ≡ total m
sum-total m = fold-total 0 m ∙ omega arith

pub one-step : (f : ℕ → List ℕ → List ℕ) (k : ℕ) (m₀ m m' : List ℕ) → m ≡ steps_below k f m₀ → m' ≡ f k m → m' ≡ steps_below (k + 1) f m₀
unfolding steps_below
one-step f k m₀ m m' made e = rw add-one (e ∙ ap (f k) made)
