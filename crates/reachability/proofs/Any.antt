-- A test of some number below k, by which the proof of the closure decides whether a round adds anybody. Assumes nothing.
use mathlib.Core.Path.{◌≡◌, ap, ◌∙◌}
use mathlib.Core.Bool.{Bool, true, false, ◌||◌, false≢true}
use mathlib.Core.Logic.{⊎_elim}
use Prim.Native.Nat.{ℕ, zero, suc, ◌<◌}
use native.Mathlib.Nat.{not-suc-le-zero}
use native.Mathlib.Omega.{arith}
use Rattle.machine.proofs.Bools.{or_cases, or-none-left, or-none-right}
use Rattle.machine.proofs.Below.{below-or-last}

-- p holds of some number below k
unfoldable pub any_below : ℕ → (ℕ → Bool) → Bool
any_below zero p = false
any_below (suc k) p = any_below k p || p k

-- a test that any passes is passed by one
pub any_at : (k : ℕ) (p : ℕ → Bool) → any_below k p ≡ true → (i : ℕ) × (i < k) × (p i ≡ true)
unfolding any_below
any_at zero p h = absurd (false≢true h)
any_at (suc k) p h =
    ⊎_elim (λ b. let (i, l, e) = any_at k p b in (i, omega arith, e)) (λ e. (k, omega arith, e))
    (or_cases (any_below k p) (p k) h)

-- a test that none passes
pub none-at : (k : ℕ) (p : ℕ → Bool) → any_below k p ≡ false → (i : ℕ) → i < k → p i ≡ false
unfolding any_below
none-at zero p h i l = absurd (not-suc-le-zero l)
none-at (suc k) p h i l =
    ⊎_elim (λ b. none-at k p (or-none-left (any_below k p) (p k) h) i b)
    (λ e. ap p e ∙ or-none-right (any_below k p) (p k) h)
    (below-or-last k i l)
