-- How long a label and a number right after it are. Assumes nothing.
use Prim.Native.Nat.{ℕ, suc, ◌+◌, ◌^◌, ◌≤◌, ◌<◌}
use mathlib.Core.List.{List}
use native.Mathlib.Omega.{arith}
use lib.ListN.{length, length-append}
use Rattle.text.specs.Decimal.{decimal, labelled}
use Rattle.text.proofs.DigitLaws.{length-decimal}

-- the number has at most so many digits
pub length-labelled : (label : List ℕ) (n k : ℕ) → n < 10 ^ suc k → length (labelled label n) ≤ length label + suc k
unfolding labelled
length-labelled label n k h = omega (arith, length-append label (decimal n), length-decimal n k h)
