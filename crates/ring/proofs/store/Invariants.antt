-- `store` meets its contract: the two counts, then the slots one after the other. Assumes nothing.
use Rattle.std.proofs.Common.{take}
use Rattle.ring_theory.specs.Ring.{stored_slot}
use Rattle.ring_theory.proofs.Filled.{Filled}
use Rattle.ring.proofs.store.Given as goal

abbrev pub invariant-loop-i : goal.invariant-loop-i
invariant-loop-i l = Filled (stored_slot l.ring) (take 4 l.initial.q) l.q l.i
