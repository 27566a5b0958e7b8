-- What computing the holders row by row requires, and what one row adds.
use Rattle.std.specs.Prelude.{ℕ, ◌*◌, ◌^◌, ◌<◌, ◌≤◌, ◌≡◌, cond, List, length, get_or}
use Rattle.std.specs.Int.Bits.{bit_or}
use Rattle.machine.specs.Word.{payload}
use Rattle.machine.specs.Right.{has_any}
use Rattle.machine.specs.Table.{rights_at}

-- The lent words fit: p has one for each of n domains, at most 16, and the table t has all their rights words.
pub record HoldersFit (t : List ℕ) (n : ℕ) (p : List ℕ) : Type 0 where
  pub few : n ≤ 16
  pub words : length p ≡ n
  pub table : n * n < length t

-- word g of the words p with what h holds on g among n domains: bit h is added where there is any right
unfoldable pub with_row : List ℕ → ℕ → ℕ → List ℕ → ℕ → ℕ
with_row t n h p g = bit_or (get_or p g 0) (cond (has_any (payload (get_or t (rights_at n h g) 0))) (2 ^ h) 0)
