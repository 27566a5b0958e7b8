-- What std prints of a number is its decimal (specs/Decimal). Assumes nothing.
use Rattle.std.proofs.Common.{◌≡◌, ℕ, zero, suc, ◌/◌, ◌^◌, ◌<◌, ◌≤◌, [], ◌∷◌, ◌++◌, sym, ap, ◌∙◌, arith}
use native.Mathlib.Decide.{dec_lt}
use Rattle.std.specs.Fmt as fmt
use Rattle.std.proofs.lemmas.Fmt as fmt-laws
use Rattle.text.specs.Decimal.{last_digit, decimal}
use Rattle.text.proofs.DigitLaws.{digits_step, decimal_digit}

-- the last digit after the decimal of the rest
step : (n : ℕ) → 10 ≤ n → decimal n ≡ decimal (n / 10) ++ (last_digit n ∷ [])
unfolding decimal
step n h = ap (λ l. l ++ (last_digit n ∷ [])) (digits_step (n / 10) (omega arith))

-- one digit, or the decimal of a tenth and the last digit
print-step : (n : ℕ) → n < 2 ^ 64 → (10 ≤ n → fmt.decimal (n / 10) ≡ decimal (n / 10)) → Dec (n < 10) → fmt.decimal n ≡ decimal n
print-step n fits tenth (yes one) = fmt-laws.decimal_digit n one ∙ sym (decimal_digit n one)
print-step n fits tenth (no more) =
    let ten : 10 ≤ n = omega arith in
    fmt-laws.decimal_step n ten fits ∙ ap (λ l. l ++ (last_digit n ∷ [])) (tenth ten) ∙ sym (step n ten)

within : (most n : ℕ) → n ≤ most → n < 2 ^ 64 → fmt.decimal n ≡ decimal n
within zero n h fits = print-step n fits (λ ten. absurd (omega arith)) (dec_lt n 10)
within (suc most) n h fits = print-step n fits (λ ten. within most (n / 10) (omega arith) (omega arith)) (dec_lt n 10)

pub printed : (n : ℕ) → n < 2 ^ 64 → fmt.decimal n ≡ decimal n
printed n = within n n (omega arith)
