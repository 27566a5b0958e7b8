-- `chains::reaches` meets its contract: a bit of the set of those that act, and a set of rights. Assumes nothing.
use mathlib.Core.Path.{refl}
use Rattle.machine.specs.Below.{has_bit}
use Rattle.machine.specs.Right.{has_any}
use Rattle.potential_theory.specs.Closure.{cell}
use Rattle.influence.specs.Reported.{reaches_in}
use Rattle.influence.proofs.chains.reaches.Goals as goal

pub returns : goal.returns
unfolding reaches_in cell has_bit has_any
returns c = rw (c.word.ensures, c.cell_at.ensures) refl
