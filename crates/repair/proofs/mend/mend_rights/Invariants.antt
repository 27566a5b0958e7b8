-- `mend_rights` meets its contract: the rights words passed are mended. Assumes nothing.
use Prim.Native.Nat.{◌+◌, ◌≤◌}
use lib.ListN.{length}
use Rattle.repair.specs.Passes.{RightsMended}
use Rattle.repair.proofs.mend.mend_rights.Given as goal

abbrev pub invariant-loop-i : goal.invariant-loop-i
invariant-loop-i l = RightsMended l.initial.table l.table l.i × (l.i ≤ l.count) × (1 + l.count ≤ length l.initial.table)
