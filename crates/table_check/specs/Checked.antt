-- Document 01's code for each result of the check: 0, or the code of the first place that refuses.
use Rattle.std.specs.Prelude.{ℕ, ◌≡◌, true, List, ⊤, Result}
use Rattle.result_code.specs.Code.{result_code}
use Rattle.machine.specs.Check.{header_ok, length_ok}
use Rattle.table_check.specs.declared.TableRefusal.{TableRefusal}
use Rattle.table_check.specs.declared.TableRefusal.TheVariants.{BadHeader, BadLength, BadRights, BadEndpoint}

-- a refusal's code
abbrev pub refusal_code : TableRefusal → ℕ
refusal_code BadHeader = 2
refusal_code BadLength = 3
refusal_code BadRights = 4
refusal_code BadEndpoint = 5

-- the code of the check's result
abbrev pub checked_code : Result ⊤ TableRefusal → ℕ
checked_code r = result_code refusal_code r

-- the precondition of the tests after the first two places: the places 2 and 3 don't refuse the table
pub record Headed (t : List ℕ) : Type 0 where
  pub header : header_ok t ≡ true
  pub size : length_ok t ≡ true
