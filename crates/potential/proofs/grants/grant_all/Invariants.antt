-- `grants::grant_all` meets its contract: one target after the other. Assumes nothing.
use mathlib.Core.Path.{◌≡◌}
use Rattle.potential_theory.specs.Closure.{steps_below, granted_on}
use Rattle.potential.proofs.grants.grant_all.Given as goal

abbrev pub invariant-loop-target : goal.invariant-loop-target
invariant-loop-target l = l.rights ≡ steps_below l.target (granted_on l.n l.giver l.recipient) l.initial.rights
