-- What the two passes over a table's words leave: t as it was lent, t' as it is then. Each record is a loop's invariant too.
use Rattle.std.specs.Prelude.{ℕ, ◌+◌, ◌<◌, ◌≤◌, ◌≡◌, List, length, get_or}
use Rattle.machine.specs.Table.{domains, endpoints, endpoint}
use Rattle.repair_theory.specs.Mend.{mended_rights, mended_endpoint, endpoints_from}

-- the first i rights words are mended, and every other word is as it was
pub record RightsMended (t t' : List ℕ) (i : ℕ) : Type 0 where
  pub size : length t' ≡ length t
  pub header : get_or t' 0 0 ≡ get_or t 0 0
  pub done : (j : ℕ) → j < i → get_or t' (1 + j) 0 ≡ mended_rights (get_or t (1 + j) 0)
  pub rest : (j : ℕ) → 1 + i ≤ j → get_or t' j 0 ≡ get_or t j 0

-- the first k endpoints are mended, and every other word is as it was
pub record EndpointsMended (t t' : List ℕ) (k : ℕ) : Type 0 where
  pub size : length t' ≡ length t
  pub before : (j : ℕ) → j < endpoints_from (domains t) → get_or t' j 0 ≡ get_or t j 0
  pub done : (e : ℕ) → e < k → endpoint t' e ≡ mended_endpoint (endpoint t e)
  pub rest : (e : ℕ) → k ≤ e → e < endpoints t → endpoint t' e ≡ endpoint t e
