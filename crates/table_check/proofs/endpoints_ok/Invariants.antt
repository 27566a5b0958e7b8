-- The endpoints passed are valid, and their names are gathered.
use Prim.Native.Nat.{◌+◌, ◌*◌, ◌≤◌}
use mathlib.Core.Path.{◌≡◌}
use lib.ListN.{length}
use Rattle.table_check.proofs.Gather.{Gathered}
use Rattle.table_check.proofs.endpoints_ok.Given as goal

abbrev pub invariant-loop-e : goal.invariant-loop-e
invariant-loop-e l =
    Gathered l.table l.m l.names l.e × (length l.table ≡ l.from + 12 * l.m) × (l.m ≤ 32)
