-- `grants::settle` meets its contract: a round that adds nothing ends it, and each other leaves less room. Assumes nothing.
use Prim.Native.Nat.{◌*◌, ◌-◌}
use Rattle.machine.specs.Right.{all_rights}
use Rattle.potential_theory.specs.Closure.{total}
use Rattle.potential.proofs.Settling.{Settling}
use Rattle.potential.proofs.grants.settle.Given as goal

abbrev pub invariant-loop-last : goal.invariant-loop-last
invariant-loop-last l = Settling l.n l.actors l.initial.rights l.rights l.last

abbrev pub decreases-loop-last : goal.decreases-loop-last
decreases-loop-last l = l.n * l.n * all_rights - total l.rights
