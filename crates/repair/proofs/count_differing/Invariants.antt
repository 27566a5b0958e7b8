use Rattle.std.proofs.Common.{◌≡◌, ◌≤◌, length}
use Rattle.machine.specs.Below.{numbers_below}
use Rattle.repair_theory.proofs.Changes.{differs_at}
use Rattle.repair.proofs.count_differing.Given as goal

abbrev pub invariant-loop-i : goal.invariant-loop-i
invariant-loop-i l = (l.count ≤ l.i) × (l.count ≡ length (numbers_below l.i (differs_at l.old l.new)))
