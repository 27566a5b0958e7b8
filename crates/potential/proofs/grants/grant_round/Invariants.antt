-- `grants::grant_round` meets its contract: one domain that acts after the other. Assumes nothing.
use mathlib.Core.Path.{◌≡◌}
use Rattle.potential_theory.specs.Closure.{steps_below, granted_by}
use Rattle.potential.proofs.grants.grant_round.Given as goal

abbrev pub invariant-loop-giver : goal.invariant-loop-giver
invariant-loop-giver l = l.rights ≡ steps_below l.giver (granted_by l.n l.actors) l.initial.rights
