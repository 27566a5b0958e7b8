-- Where the endpoints' words and their rings are, in a table that is long enough. Assumes nothing.
use mathlib.Core.Path.{◌≡◌, ap₂}
use mathlib.Core.List.{List}
use Prim.Native.Nat.{ℕ, ◌+◌, ◌-◌, ◌*◌, ◌<◌, ◌≤◌}
use native.Mathlib.Nat.{add-sub_cancel_left}
use native.Mathlib.Omega.{arith}
use lib.ListN.{take, drop}
use Rattle.machine.specs.Table.{endpoint_at}
use Rattle.working_load.specs.Layout.{words_at}

-- what follows from the test
pub record HasQueues (n m size lent : ℕ) : Type 0 where
  pub few : m ≤ 32
  pub there : endpoint_at n m ≤ size
  pub twelve : lent ≡ 12 * m

-- an endpoint's words are in the table
pub words-within : (n m size lent e : ℕ) → HasQueues n m size lent → e < m → endpoint_at n e + 12 ≤ size
words-within n m size lent e r l = omega (arith, r.there)

-- the parts that are lent
pub words-lent : (t : List ℕ) (n e at : ℕ) → at ≡ endpoint_at n e → take (at + 12 - at) (drop at t) ≡ words_at n t e
words-lent t n e at is = ap₂ (λ (k a : ℕ). take k (drop a t)) (add-sub_cancel_left at 12) is
