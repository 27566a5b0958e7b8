-- `grants::grant_all` meets its contract: one target after the other. Assumes nothing.
use mathlib.Core.Path.{refl}
use Rattle.potential_theory.specs.Closure.{steps_below}
use Rattle.potential.proofs.Loops.{one-step}
use Rattle.potential.proofs.grants.grant_all.Goals as goal

pub loop-target-init : goal.loop-target-init
unfolding steps_below
loop-target-init c = refl

pub loop-target-preserved : goal.loop-target-preserved
loop-target-preserved c = one-step _ _ _ _ _ c.loop-target.invariant c.grant_on.ensures
