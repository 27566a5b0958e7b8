-- The result of writing rows as C has it, in one number of 64 bits: up to 4,096, that many words are written (code 0); 4,097 is
-- code 31; and 4,098 + k is code 30 for the call of index k (document 02, (c)).
use Rattle.std.specs.Prelude.{ℕ, ◌-◌, ◌≡◌, cond, List, [], ◌∷◌, map, eqb, leb}
use Rattle.writer_theory.specs.Write.{WriteOutcome}

-- the code of a result
unfoldable pub result_code : ℕ → ℕ
result_code r = cond (leb r 4096) 0 (cond (eqb r 4097) 31 30)

-- the number that goes with the code: how many words are written, 0, or the index of the first bad call
unfoldable pub result_number : ℕ → ℕ
result_number r = cond (leb r 4096) r (cond (eqb r 4097) 0 (r - 4098))

-- the outcome that a result and the words left make up
abbrev pub outcome_of : ℕ → List ℕ → WriteOutcome
outcome_of r list = record { code = result_code r; number = result_number r; list = list }

-- results on both sides of each limit, and the largest of 64 bits
abbrev pub results : List ℕ
results = 0 ∷ 1 ∷ 4095 ∷ 4096 ∷ 4097 ∷ 4098 ∷ 4099 ∷ 69633 ∷ 69634 ∷ 18446744073709551615 ∷ []

-- Each of them has this code and this number.
abbrev pub EveryResult : Type 0
EveryResult =
    (map result_code results ≡ 0 ∷ 0 ∷ 0 ∷ 0 ∷ 31 ∷ 30 ∷ 30 ∷ 30 ∷ 30 ∷ 30 ∷ [])
    × (map result_number results ≡ 0 ∷ 1 ∷ 4095 ∷ 4096 ∷ 0 ∷ 0 ∷ 1 ∷ 65535 ∷ 65536 ∷ 18446744073709547517 ∷ [])
