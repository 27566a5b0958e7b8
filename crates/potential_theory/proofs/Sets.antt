-- Laws of sets of rights by their single rights, and of a set with rights added (specs/Right of the machine). Assumes nothing.
use mathlib.Core.Path.{◌≡◌, ◌∙◌}
use mathlib.Core.Bool.{true, false}
use Prim.Native.Nat.{ℕ, ◌^◌, ◌≤◌, ◌<◌}
use native.Mathlib.Omega.{arith}
use borrow.Author.Tests.{eqb-true, eqb-false, eq-eqb}
use lib.Bits.{bit_and, and_self, and_le_r, or_add_and}
use lib.Pow.{pow_pos}
use Rattle.machine.specs.Below.{has_bit}
use Rattle.machine.specs.Right.{holds, adds, has_any}
use Rattle.machine.proofs.Right.{holds-bit, holds-any, any-nonzero}
use Rattle.reachability.proofs.Bits.{some-bit}

-- some right is a single right
pub some_right : (a : ℕ) → has_any a ≡ true → (k : ℕ) × (holds a (2 ^ k) ≡ true)
unfolding has_bit
some_right a h =
    let (k, b) = some-bit a (any-nonzero a h) in
    (k, holds-bit a k ∙ b)

pub right-any : (a k : ℕ) → holds a (2 ^ k) ≡ true → has_any a ≡ true
right-any a k h = holds-any a (2 ^ k) (λ e. omega (arith, pow_pos k)) h

pub holds-self : (a : ℕ) → holds a a ≡ true
unfolding holds
holds-self a = eq-eqb _ _ (and_self a)

-- rights that are there already add nothing, and others make the number larger
pub adds-le : (a b : ℕ) → a ≤ adds a b
unfolding adds
adds-le a b = omega (arith, or_add_and a b, and_le_r a b)

pub adds_same : (a b : ℕ) → holds a b ≡ true → adds a b ≡ a
unfolding holds adds
adds_same a b h = omega (arith, or_add_and a b, eqb-true (bit_and a b) b h)

pub adds-more : (a b : ℕ) → holds a b ≡ false → a < adds a b
unfolding holds adds
adds-more a b h =
    let other = eqb-false (bit_and a b) b h in
    omega (arith, or_add_and a b, and_le_r a b)
