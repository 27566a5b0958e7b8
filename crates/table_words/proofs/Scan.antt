-- A loop that tests each number below k: its flag is the test of those passed (specs/Below of the machine). This is the
-- invariant of every loop of the check, with what holds at its start, after an iteration and at its end.
-- Assumes nothing.
use mathlib.Core.Path.{◌≡◌, refl, ap₂}
use mathlib.Core.Bool.{Bool, true, ◌&&◌}
use Prim.Native.Nat.{ℕ, ◌+◌, ◌<◌, ◌≤◌}
use native.Mathlib.Nat.{le_antisymm}
use native.Mathlib.Numerals.{add-one}
use native.Mathlib.Omega.{arith}
use Rattle.machine.specs.Below.{all_below}

pub record Scanned (p : ℕ → Bool) (k : ℕ) (flag : Bool) (i : ℕ) : Type 0 where
  pub passed : flag ≡ all_below i p
  pub within : i ≤ k

module _ (p : ℕ → Bool) (k : ℕ) where
  pub scan-start : Scanned p k true 0
  unfolding all_below
  scan-start = record { passed = refl; within = omega arith }

  pub scan-next : (flag b : Bool) (i : ℕ) → Scanned p k flag i → i < k → b ≡ p i → Scanned p k (flag && b) (i + 1)
  unfolding all_below
  scan-next flag b i s l e = record { passed = rw add-one (ap₂ ◌&&◌ s.passed e); within = omega arith }

  pub scan-end : (flag : Bool) (i : ℕ) → Scanned p k flag i → k ≤ i → flag ≡ all_below k p
  scan-end flag i s l = rw (le_antisymm s.within l) at s.passed
