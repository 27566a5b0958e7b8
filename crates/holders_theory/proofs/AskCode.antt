-- What 32 is for, when the holders are asked (specs/Claims). Assumes nothing.
use mathlib.Core.Path.{◌≡◌, refl, sym, ap, ◌∙◌}
use mathlib.Core.Bool.{Bool, true, false, cond, false≢true}
use mathlib.Core.List.{List}
use Prim.Native.Nat.{ℕ, ◌+◌, ◌/◌, ◌%◌, ◌^◌, ◌<◌, ◌≤◌}
use native.Mathlib.Decide.{dec_lt}
use native.Mathlib.Nat.{div-eq_of_lt, lt_of_lt_of_le, one-mul}
use native.Mathlib.Omega.{arith}
use borrow.Author.Tests.{ltb-true, lt-ltb}
use lib.Dec.{eqb}
use lib.ListN.{length, get_or}
use lib.Pow.{pow_mono, shl-shr, shr-shr, shr_mono}
use Rattle.machine.specs.Below.{has_bit}
use Rattle.machine.proofs.Bools.{cond-elim}
use Rattle.machine.proofs.Below.{all-at, all_of}
use Rattle.reachability.proofs.Bits.{some-bit}
use Rattle.holders_theory.specs.Asked.{bits_within, askable, ask_code, asked}
use Rattle.holders_theory.specs.Claims.{EveryAskCode}
use Rattle.holders_theory.proofs.Reported.{by_bits, askable-parts}

-- a word below 2 ^ n has no bit from n on
no-bit : (w n h : ℕ) → w < 2 ^ n → n ≤ h → has_bit w h ≡ false
unfolding has_bit
no-bit w n h l from = rw (div-eq_of_lt (lt_of_lt_of_le l (pow_mono from)))

-- and one that has none is below it
bit-above : (w n k : ℕ) → has_bit (w / 2 ^ n) k ≡ has_bit w (n + k)
unfolding has_bit
bit-above w n k = ap (λ x. eqb (x % 2) 1) (shr-shr w n k)

below : (w n : ℕ) → ((h : ℕ) → n ≤ h → has_bit w h ≡ false) → w < 2 ^ n
below w n none = go (dec_lt w (2 ^ n))
  where
    high : 2 ^ n ≤ w → w / 2 ^ n ≡ 0 → ⊥
    high l e = omega (arith, shr_mono n l, ap (λ x. x / 2 ^ n) (sym (one-mul (2 ^ n))) ∙ shl-shr 1 n)

    go : Dec (w < 2 ^ n) → w < 2 ^ n
    go (yes l) = l
    go (no l) =
        let (k, set) = some-bit (w / 2 ^ n) (high (omega arith)) in
        absurd (false≢true (sym (none (n + k) (omega arith)) ∙ sym (bit-above w n k) ∙ set))

-- ---- the code

module _ (ws : List ℕ) (d : ℕ) where
  refused : (askable ws d ≡ true → ⊥) → ask_code ws d ≡ 32
  unfolding ask_code
  refused unasked = cond-elim (λ code. code ≡ 32) (askable ws d) (λ h. absurd (unasked h)) (λ _. refl)

  within : askable ws d ≡ true → (v : ℕ) → v < length ws → get_or ws v 0 < 2 ^ length ws
  unfolding bits_within
  within h v l = ltb-true _ _ (all-at (length ws) _ (askable-parts ws d h).1 v l)

  all-within : ((v h : ℕ) → v < length ws → length ws ≤ h → has_bit (get_or ws v 0) h ≡ false) → bits_within ws ≡ true
  unfolding bits_within
  all-within none = all_of (length ws) _ (λ v l. lt-ltb _ _ (below (get_or ws v 0) (length ws) (λ h. none v h l)))

  asked-empty : ask_code ws d ≡ 32 → asked ws d ≡ 0
  unfolding ask_code asked
  asked-empty e = go (askable ws d) refl
    where
      go : (b : Bool) → askable ws d ≡ b → asked ws d ≡ 0
      go true h = absurd (omega (arith, simp h at e))
      go false h = simp h

pub ask-code : EveryAskCode
unfolding ask_code
ask-code ws d =
    record {
      no_words = λ e. refused ws d (λ h. omega (arith, (askable-parts ws d h).2));
      too_many = λ l. refused ws d (λ h. omega (arith, (askable-parts ws d h).0));
      other_bit =
          λ v h lv from set. refused ws d (λ a. false≢true (sym (no-bit (get_or ws v 0) (length ws) h (within ws d a v lv) from) ∙ set));
      other_domain = λ l. refused ws d (λ h. omega (arith, (askable-parts ws d h).2));
      passed = λ few l none. ap (λ b. cond b 0 32) (sym (by_bits ws d few l) ∙ all-within ws d none);
      empty = asked-empty ws d;
    }
