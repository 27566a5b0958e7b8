-- Laws of one bit of a word: set or cleared, it alone is altered (specs/Noted). Assumes nothing.
use mathlib.Core.Path.{◌≡◌, sym, ap, ap₂, ◌∙◌}
use mathlib.Core.Bool.{Bool, true, false, cond, not, ◌&&◌, or-false, or-true, and-true, and-false}
use mathlib.Core.Logic.{⊎_elim}
use Prim.Native.Nat.{ℕ, suc, ◌+◌, ◌-◌, ◌^◌, ◌<◌}
use native.Mathlib.Decide.{dec_lt}
use native.Mathlib.Nat.{one-mul}
use native.Mathlib.Omega.{arith}
use lib.Bits.{bit_and, bit_or, or_zero_r, or_shifted_r}
use Rattle.machine.specs.Below.{sum_below, bits_below, has_bit}
use Rattle.machine.specs.Right.{without}
use Rattle.machine.proofs.Bools.{either}
use Rattle.machine.proofs.Below.{bits-lt, bits_at, bits-past}
use Rattle.machine.proofs.Right.{holds-bit, holds-without}
use Rattle.machine.proofs.Table.{equal-either}
use Rattle.reachability.proofs.Bits.{bit-or, bit-own, bit-other, same_bits}
use Rattle.holders_theory.specs.Noted.{with_bit}

-- ---- a bit set or cleared

bit-without : (a b k : ℕ) → has_bit (a - bit_and a b) k ≡ (has_bit a k && not (has_bit b k))
unfolding has_bit without
bit-without a b k =
    sym (holds-bit (a - bit_and a b) k) ∙ holds-without a b k ∙ ap₂ (λ x y. x && not y) (holds-bit a k) (holds-bit b k)

-- the set of one has no other bit
bit-apart : (i k : ℕ) → (k ≡ i → ⊥) → has_bit (2 ^ i) k ≡ false
bit-apart i k ne = ⊎_elim (λ h. absurd (ne (bit-other i k h))) (λ h. h) (either (has_bit (2 ^ i) k))

module _ (w i : ℕ) where
  pub bit-changed : (b : Bool) → has_bit (with_bit w i b) i ≡ b
  unfolding with_bit
  bit-changed true = bit-or w (2 ^ i) i ∙ rw (bit-own i, or-true)
  bit-changed false = bit-without w (2 ^ i) i ∙ rw (bit-own i, and-false)

  pub bit_kept : (b : Bool) (k : ℕ) → (k ≡ i → ⊥) → has_bit (with_bit w i b) k ≡ has_bit w k
  unfolding with_bit
  bit_kept true k ne = bit-or w (2 ^ i) k ∙ rw (bit-apart i k ne, or-false)
  bit_kept false k ne = bit-without w (2 ^ i) k ∙ rw (bit-apart i k ne, and-true)

-- as it is made with the set of i
module _ (w i one : ℕ) (b : Bool) (e : one ≡ 2 ^ i) where
  pub made-set : b ≡ true → bit_or w one ≡ with_bit w i b
  unfolding with_bit
  made-set h = rw (e, h)

  pub made-cleared : b ≡ false → w - bit_and w one ≡ with_bit w i b
  unfolding with_bit
  made-cleared h = rw (e, h)

-- the set of those below n of which p holds, where the answer for i alone changes
pub bits-with :
    (n i : ℕ) (p q : ℕ → Bool) (b : Bool)
    → i < n
    → q i ≡ b
    → ((k : ℕ) → k < n → (k ≡ i → ⊥) → q k ≡ p k)
    → with_bit (bits_below n p) i b ≡ bits_below n q
bits-with n i p q b l here there =
    same_bits _ _
    (λ k.
    ⊎_elim (λ e. rw e (bit-changed (bits_below n p) i b ∙ sym here ∙ sym (bits_at n q i l)))
    (λ ne. bit_kept (bits_below n p) i b k ne ∙ other k ne (dec_lt k n))
    (equal-either k i))
  where
    other : (k : ℕ) → (k ≡ i → ⊥) → Dec (k < n) → has_bit (bits_below n p) k ≡ has_bit (bits_below n q) k
    other k ne (yes below) = bits_at n p k below ∙ sym (there k below ne) ∙ sym (bits_at n q k below)
    other k ne (no past) = bits-past n p k (omega arith) ∙ sym (bits-past n q k (omega arith))

-- one bit more
pub bits-next : (h : ℕ) (p : ℕ → Bool) → bit_or (bits_below h p) (cond (p h) (2 ^ h) 0) ≡ bits_below (suc h) p
unfolding bits_below sum_below
bits-next h p = go (p h)
  where
    go : (b : Bool) → bit_or (bits_below h p) (cond b (2 ^ h) 0) ≡ bits_below h p + cond b (2 ^ h) 0
    go true = ap (bit_or (bits_below h p)) (sym (one-mul (2 ^ h))) ∙ or_shifted_r 1 h (bits_below h p) (bits-lt h p) ∙ omega arith
    go false = or_zero_r (bits_below h p) ∙ omega arith
