-- `grants::grant_each` meets its contract: one recipient after the other. Assumes nothing.
use mathlib.Core.Path.{◌≡◌}
use Rattle.potential_theory.specs.Closure.{steps_below, granted_to}
use Rattle.potential.proofs.grants.grant_each.Given as goal

abbrev pub invariant-loop-recipient : goal.invariant-loop-recipient
invariant-loop-recipient l = l.rights ≡ steps_below l.recipient (granted_to l.n l.giver) l.initial.rights
