-- `mend_endpoints` meets its contract: the endpoints passed are mended, each lent as a part of the table. Assumes nothing.
use Prim.Native.Nat.{◌+◌, ◌*◌, ◌≤◌}
use mathlib.Core.Path.{◌≡◌}
use lib.ListN.{length}
use Rattle.repair.specs.Passes.{EndpointsMended}
use Rattle.repair.proofs.mend.mend_endpoints.Given as goal

abbrev pub invariant-loop-e : goal.invariant-loop-e
invariant-loop-e l =
    EndpointsMended l.initial.table l.table l.e × (l.e ≤ l.m) × (l.m ≤ 32) × (length l.initial.table ≡ l.from + 12 * l.m)
