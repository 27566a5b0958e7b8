-- Which calls a closure gives, one for each index.
use Rattle.std.specs.Prelude.{ℕ, ◌≡◌, ◌<◌, List, length, get_or}
use Rattle.calls.specs.declared.Call.{Call}
use Rattle.writer_theory.specs.Rows.{no_call}

-- the calls cs are those that are given for the indices below n
pub record Gives (gives : ℕ → Call → Type 0) (n : ℕ) (cs : List Call) : Type 0 where
  pub count : length cs ≡ n
  pub each : (i : ℕ) (c : Call) → i < n → gives i c → c ≡ get_or cs i no_call
