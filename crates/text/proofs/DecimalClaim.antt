-- A number's decimal is its digits (specs/Decimal: EveryDecimal). Assumes nothing.
use Prim.Native.Nat.{ℕ, zero, suc, ◌+◌, ◌-◌, ◌*◌, ◌/◌, ◌<◌, ◌≤◌}
use mathlib.Core.Path.{◌≡◌, refl}
use mathlib.Core.List.{List, [], ◌∷◌, ◌++◌, append_assoc}
use native.Mathlib.Decide.{dec_lt}
use native.Mathlib.Omega.{arith}
use lib.ListN.{get_or}
use Rattle.text.specs.Decimal.{last_digit, digits_within, digits, decimal, value_after, AllDigits, EveryDecimal}

-- one digit more
value-append : (before : ℕ) (cs : List ℕ) (c : ℕ) → value_after before (cs ++ (c ∷ [])) ≡ 10 * value_after before cs + (c - 48)
unfolding value_after
value-append before [] c = refl
value-append before (d ∷ cs) c = value-append (10 * before + (d - 48)) cs c

digits_append : (cs : List ℕ) (n : ℕ) → AllDigits cs → AllDigits (cs ++ (last_digit n ∷ []))
unfolding AllDigits
digits_append [] n all = (omega arith, omega arith, tt)
digits_append (c ∷ cs) n all = (all.0, all.1, digits_append cs n all.2)

-- the digits of a number that has at most so many
within-value : (most n : ℕ) → n ≤ most → value_after 0 (digits_within most n) ≡ n
unfolding digits_within value_after
within-value zero n h = omega arith
within-value (suc most) zero h = refl
within-value (suc most) (suc n) h =
    omega (
      arith,
      value-append 0 (digits_within most (suc n / 10)) (last_digit (suc n)),
      within-value most (suc n / 10) (omega arith),
    )

within-digits : (most n : ℕ) → AllDigits (digits_within most n)
unfolding digits_within AllDigits
within-digits zero n = tt
within-digits (suc most) zero = tt
within-digits (suc most) (suc n) = digits_append (digits_within most (suc n / 10)) (suc n) (within-digits most (suc n / 10))

within_none : (most : ℕ) → digits_within most 0 ≡ []
unfolding digits_within
within_none zero = refl
within_none (suc most) = refl

-- the first digit of a number that isn't 0 isn't 0, whatever follows its digits
within_first : (most n : ℕ) (more : List ℕ) → 0 < n → n ≤ most → 48 < get_or (digits_within most n ++ more) 0 0
unfolding digits_within
within_first zero n more some h = absurd (omega arith)
within_first (suc most) zero more some h = absurd (omega arith)
within_first (suc most) (suc n) more some h = first (within_first most (suc n / 10) (last_digit (suc n) ∷ more)) (dec_lt 0 (suc n / 10))
  where
    Earlier : Type 0
    Earlier = 0 < suc n / 10 → suc n / 10 ≤ most → 48 < get_or (digits_within most (suc n / 10) ++ (last_digit (suc n) ∷ more)) 0 0

    first : Earlier → Dec (0 < suc n / 10) → 48 < get_or ((digits_within most (suc n / 10) ++ (last_digit (suc n) ∷ [])) ++ more) 0 0
    first earlier (yes l) = rw (append_assoc (digits_within most (suc n / 10)) (last_digit (suc n) ∷ []) more) (earlier l (omega arith))
    first earlier (no l) =
        let none : suc n / 10 ≡ 0 = omega arith in
        rw (none, within_none most) (omega arith)

decimal-first : (n : ℕ) → 0 < n → Dec (0 < n / 10) → 48 < get_or (digits (n / 10) ++ (last_digit n ∷ [])) 0 0
decimal-first n some (yes l) = within_first (n / 10) (n / 10) (last_digit n ∷ []) l (omega arith)
decimal-first n some (no l) =
    let none : n / 10 ≡ 0 = omega arith in
    rw (none, within_none 0) (omega arith)

pub every-decimal : EveryDecimal
unfolding decimal digits_within
every-decimal n =
    record {
      all_digits = digits_append (digits (n / 10)) n (within-digits (n / 10) (n / 10));
      value = omega (arith, value-append 0 (digits (n / 10)) (last_digit n), within-value (n / 10) (n / 10) (omega arith));
      no_leading_zero = λ some. decimal-first n some (dec_lt 0 (n / 10));
      zero_is = λ e. rw e refl;
    }
