-- The code of a result (document 01, 'Where each number is checked').
use Rattle.std.specs.Prelude.{ℕ, Result, Ok, Err}

-- its refusal's code, and 0 where nothing was refused
abbrev pub result_code : {A E : Type 0} → (E → ℕ) → Result A E → ℕ
result_code code (Ok x) = 0
result_code code (Err r) = code r
