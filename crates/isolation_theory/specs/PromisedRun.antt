-- A run of the kernel that was not refused, as its contract states it.
use Rattle.std.specs.Prelude.{ℕ, List}
use Rattle.machine.specs.Promise.{RunPromise}

-- From the table t and the list ws: the answer space and the holders that were lent, the count of calls answered, the words left
-- in the space, in the table and in the holders, and the kernel's promise of them, with code 0.
pub record PromisedRun (t ws : List ℕ) : Type 0 where
  pub space : List ℕ
  pub holders : List ℕ
  pub calls : ℕ
  pub answers : List ℕ
  pub end : List ℕ
  pub kept : List ℕ
  pub promise : RunPromise t ws space holders 0 calls answers end kept
