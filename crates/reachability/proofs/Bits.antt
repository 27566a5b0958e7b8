-- Laws of the bits of a number (specs/Below of the machine: has_bit).
-- Assumes nothing.
use mathlib.Core.Path.{◌≡◌, refl, sym, ap, ap₂, ◌∙◌}
use mathlib.Core.Bool.{Bool, true, false, ◌||◌, false≢true}
use mathlib.Core.Logic.{⊎_elim}
use Prim.Native.Nat.{ℕ, zero, suc, ◌/◌, ◌%◌, ◌^◌, ◌<◌}
use native.Mathlib.Nat.{zero-div, div-one, pow-suc, mod-eq_of_lt}
use native.Mathlib.Decide.{dec_lt}
use native.Mathlib.Omega.{arith}
use borrow.Author.Tests.{eqb-true, eqb-false}
use lib.Arith.{bin_ind}
use lib.Bits.{bit_or}
use lib.Dec.{eqb}
use lib.Pow.{shr-shr}
use Rattle.machine.specs.Below.{has_bit}
use Rattle.machine.specs.Right.{adds}
use Rattle.machine.proofs.Bools.{either}
use Rattle.machine.proofs.Right.{holds-bit, holds-adds}

pub bit-or : (a b u : ℕ) → has_bit (bit_or a b) u ≡ (has_bit a u || has_bit b u)
unfolding has_bit adds
bit-or a b u = sym (holds-bit (bit_or a b) u) ∙ holds-adds a b u ∙ ap₂ ◌||◌ (holds-bit a u) (holds-bit b u)

pub bit-none : (u : ℕ) → has_bit 0 u ≡ false
unfolding has_bit
bit-none u = rw (zero-div (2 ^ u))

-- the lowest bit, and the others by halving
pub bit-zero : (w : ℕ) → has_bit w 0 ≡ eqb (w % 2) 1
unfolding has_bit
bit-zero w = ap (λ x. eqb (x % 2) 1) (div-one w)

pub bit-half : (w u : ℕ) → has_bit (w / 2) u ≡ has_bit w (suc u)
unfolding has_bit
bit-half w u = ap (λ x. eqb (x % 2) 1) (shr-shr w 1 u ∙ ap (λ k. w / 2 ^ k) (omega arith))

-- the set of one as `bit` makes it, for an index below 32
pub bit_is : {r i : ℕ} → i < 32 → r ≡ 2 ^ (i % 32) → r ≡ 2 ^ i
bit_is l e = e ∙ ap (λ k. 2 ^ k) (mod-eq_of_lt l)

-- of a set of one
half_pow : (d : ℕ) → 2 ^ suc d / 2 ≡ 2 ^ d
half_pow d = omega (arith, pow-suc 2 d)

pub bit-own : (d : ℕ) → has_bit (2 ^ d) d ≡ true
bit-own zero = bit-zero 1
bit-own (suc d) = sym (bit-half (2 ^ suc d) d) ∙ ap (λ w. has_bit w d) (half_pow d) ∙ bit-own d

pub bit-other : (d u : ℕ) → has_bit (2 ^ d) u ≡ true → u ≡ d
bit-other zero zero h = refl
bit-other zero (suc u) h = absurd (false≢true (sym (sym (bit-half 1 u) ∙ bit-none u) ∙ h))
bit-other (suc d) zero h = absurd (even (eqb-true _ _ (sym (bit-zero (2 ^ suc d)) ∙ h)))
  where
    even : 2 ^ suc d % 2 ≡ 1 → ⊥
    even e = omega (arith, pow-suc 2 d)
bit-other (suc d) (suc u) h =
    ap suc (bit-other d u (sym (sym (bit-half (2 ^ suc d) u) ∙ ap (λ w. has_bit w u) (half_pow d)) ∙ h))

-- a number other than 0 has a bit set
pub some-bit : (w : ℕ) → (w ≡ 0 → ⊥) → (k : ℕ) × (has_bit w k ≡ true)
some-bit =
    bin_ind (λ w. (w ≡ 0 → ⊥) → (k : ℕ) × (has_bit w k ≡ true)) (λ n. absurd (n refl))
    (λ w ih n. ⊎_elim (λ odd. (0, bit-zero w ∙ odd)) (λ even. next w (ih (half w n even))) (either (eqb (w % 2) 1)))
  where
    half : (w : ℕ) → (w ≡ 0 → ⊥) → eqb (w % 2) 1 ≡ false → w / 2 ≡ 0 → ⊥
    half w n even e = n (omega (arith, eqb-false (w % 2) 1 even))

    next : (w : ℕ) → (k : ℕ) × (has_bit (w / 2) k ≡ true) → (k : ℕ) × (has_bit w k ≡ true)
    next w x = (suc x.0, sym (bit-half w x.0) ∙ x.1)

-- numbers with the same bits are equal
bits_none : (w : ℕ) → ((u : ℕ) → has_bit w u ≡ false) → w ≡ 0
bits_none w f = go (dec_lt 0 w)
  where
    go : Dec (0 < w) → w ≡ 0
    go (yes l) = let (k, h) = some-bit w (λ e. omega arith) in absurd (false≢true (sym (f k) ∙ h))
    go (no n) = omega arith

same_half : (w v : ℕ) → eqb (w % 2) 1 ≡ eqb (v % 2) 1 → w / 2 ≡ v / 2 → w ≡ v
same_half w v low high = go (eqb (v % 2) 1) refl
  where
    go : (b : Bool) → eqb (v % 2) 1 ≡ b → w ≡ v
    go true e = omega (arith, eqb-true (v % 2) 1 e, eqb-true (w % 2) 1 (low ∙ e))
    go false e = omega (arith, eqb-false (v % 2) 1 e, eqb-false (w % 2) 1 (low ∙ e))

pub same_bits : (w v : ℕ) → ((u : ℕ) → has_bit w u ≡ has_bit v u) → w ≡ v
same_bits =
    bin_ind (λ w. (v : ℕ) → ((u : ℕ) → has_bit w u ≡ has_bit v u) → w ≡ v)
    (λ v f. sym (bits_none v (λ u. sym (f u) ∙ bit-none u)))
    (λ w ih v f.
    same_half w v (sym (bit-zero w) ∙ f 0 ∙ bit-zero v)
    (ih (v / 2) (λ u. bit-half w u ∙ f (suc u) ∙ sym (bit-half v u))))
