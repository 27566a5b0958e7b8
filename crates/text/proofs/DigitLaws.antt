-- The laws of decimal numbers: one digit at a time, and how many digits there are. Assumes nothing.
use Prim.Native.Nat.{ℕ, zero, suc, ◌+◌, ◌^◌, ◌/◌, ◌%◌, ◌≤◌, ◌<◌}
use mathlib.Core.Path.{◌≡◌, refl, ap}
use mathlib.Core.List.{[], ◌∷◌, ◌++◌}
use native.Mathlib.Nat.{pow-suc, div-lt_iff_lt-mul}
use native.Mathlib.Omega.{arith}
use lib.Dec.{lit<}
use lib.ListN.{length, length-append}
use Rattle.text.specs.Decimal.{last_digit, digits_within, digits, decimal}

-- any bound that is large enough gives the same digits
same_digits : (k m n : ℕ) → n ≤ k → n ≤ m → digits_within k n ≡ digits_within m n
unfolding digits_within
same_digits zero zero n hk hm = refl
same_digits zero (suc m) zero hk hm = refl
same_digits zero (suc m) (suc n) hk hm = absurd (omega arith)
same_digits (suc k) zero zero hk hm = refl
same_digits (suc k) zero (suc n) hk hm = absurd (omega arith)
same_digits (suc k) (suc m) zero hk hm = refl
same_digits (suc k) (suc m) (suc n) hk hm =
    ap (λ l. l ++ (last_digit (suc n) ∷ [])) (same_digits k m (suc n / 10) (omega arith) (omega arith))

-- the last digit of a number, and before it the digits of a tenth of it
pub digits_step : (n : ℕ) → 0 < n → digits n ≡ digits (n / 10) ++ (last_digit n ∷ [])
unfolding digits_within
digits_step zero h = absurd (omega arith)
digits_step (suc n) h =
    ap (λ l. l ++ (last_digit (suc n) ∷ [])) (same_digits n (suc n / 10) (suc n / 10) (omega arith) (omega arith))

-- a tenth of a number has one digit fewer
pub tenth-lt : (n k : ℕ) → n < 10 ^ suc k → n / 10 < 10 ^ k
tenth-lt n k h = (div-lt_iff_lt-mul (lit< tt)).1 (rw (pow-suc) at h)

length-within : (most n k : ℕ) → n < 10 ^ k → length (digits_within most n) ≤ k
unfolding digits_within
length-within zero n k h = omega arith
length-within (suc most) zero k h = omega arith
length-within (suc most) (suc n) zero h = absurd (omega arith)
length-within (suc most) (suc n) (suc k) h =
    omega (arith, length-within most (suc n / 10) k (tenth-lt (suc n) k h), length-append (digits_within most (suc n / 10)) (last_digit (suc n) ∷ []))

-- a number below 10 ^ k has at most k digits, and 0 has one
pub length-decimal : (n k : ℕ) → n < 10 ^ suc k → length (decimal n) ≤ suc k
unfolding decimal
length-decimal n k h =
    omega (arith, length-within (n / 10) (n / 10) k (tenth-lt n k h), length-append (digits (n / 10)) (last_digit n ∷ []))

-- a number below 10 is its one digit
pub decimal_digit : (n : ℕ) → n < 10 → decimal n ≡ (48 + n) ∷ []
unfolding decimal digits_within
decimal_digit n h =
    let none : n / 10 ≡ 0 = omega arith in
    let itself : n % 10 ≡ n = omega arith in
    rw (none, itself) refl
