-- A number in decimal, as ASCII bytes, without leading zeros; 0 is the one digit 0. The claim at the end says what that means.
use Rattle.std.specs.Prelude.{ℕ, zero, suc, ◌+◌, ◌-◌, ◌*◌, ◌/◌, ◌%◌, ◌<◌, ◌≤◌, ◌≡◌, List, [], ◌∷◌, ◌++◌, get_or}

-- the ASCII byte of a number's last digit
abbrev pub last_digit : ℕ → ℕ
last_digit n = 48 + n % 10

-- the digits of a number that has at most so many; none for 0
unfoldable pub digits_within : ℕ → ℕ → List ℕ
digits_within zero n = []
digits_within (suc most) zero = []
digits_within (suc most) (suc n) = digits_within most (suc n / 10) ++ (last_digit (suc n) ∷ [])

-- the digits of a number; none for 0
abbrev pub digits : ℕ → List ℕ
digits n = digits_within n n

unfoldable pub decimal : ℕ → List ℕ
decimal n = digits (n / 10) ++ (last_digit n ∷ [])

-- a label and a number in decimal right after it
unfoldable pub labelled : List ℕ → ℕ → List ℕ
labelled label n = label ++ decimal n

-- the value of ASCII digits, the highest first, after digits of the value `before`
unfoldable pub value_after : ℕ → List ℕ → ℕ
value_after before [] = before
value_after before (c ∷ cs) = value_after (10 * before + (c - 48)) cs

-- each byte is an ASCII digit
unfoldable pub AllDigits : List ℕ → Type 0
AllDigits [] = Unit {0}
AllDigits (c ∷ cs) = (48 ≤ c) × (c ≤ 57) × AllDigits cs

-- bytes write a number in decimal: they are digits, of the number's value, and the first isn't 0 unless the number is
pub record Decimal (n : ℕ) (bytes : List ℕ) : Type 0 where
  pub all_digits : AllDigits bytes
  pub value : value_after 0 bytes ≡ n
  pub no_leading_zero : 0 < n → 48 < get_or bytes 0 0
  pub zero_is : n ≡ 0 → bytes ≡ 48 ∷ []

abbrev pub EveryDecimal : Type 0
EveryDecimal = (n : ℕ) → Decimal n (decimal n)
