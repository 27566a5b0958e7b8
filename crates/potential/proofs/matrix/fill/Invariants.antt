-- `matrix::fill` meets its contract: the cells passed are filled in. Assumes nothing.
use mathlib.Core.Path.{◌≡◌}
use Prim.Native.Nat.{ℕ, ◌+◌, ◌<◌}
use lib.ListN.{get_or}
use Rattle.machine.specs.Word.{payload}
use Rattle.potential.proofs.matrix.fill.Given as goal

abbrev pub invariant-loop-i : goal.invariant-loop-i
invariant-loop-i l = (k : ℕ) → k < l.i → get_or l.rights k 0 ≡ payload (get_or l.table (1 + k) 0)
