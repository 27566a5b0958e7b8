-- `load` meets its contract: the first four words, then the places one after the other. Assumes nothing.
use Rattle.std.proofs.Common.{◌+◌, get_or, take}
use Rattle.machine.specs.Word.{payload}
use Rattle.ring_theory.proofs.Filled.{Filled}
use Rattle.ring.proofs.load.Given as goal

abbrev pub invariant-loop-i : goal.invariant-loop-i
invariant-loop-i l = Filled (λ j. payload (get_or l.q (4 + j) 0)) (take 4 l.initial.ring) l.ring l.i
