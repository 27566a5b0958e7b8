-- The rows of potential rights hold, each by computation (specs/Examples). Assumes nothing.
use mathlib.Core.Path.{refl}
use Rattle.machine.specs.Below.{words_below, has_bit}
use Rattle.machine.proofs.Everything.{everything}
use Rattle.potential_theory.specs.Closure as closure
use Rattle.potential_theory.specs.Lists as lists
use Rattle.potential_theory.specs.Examples.{EveryPotentialRow, potential_rows}

pub every-potential-row : EveryPotentialRow potential_rows
unfolding everything words_below has_bit
    closure.cell closure.matrix_of closure.steps_below closure.granted_on closure.granted_to closure.granted_by closure.round closure.total
    closure.settled closure.potential
    lists.grant_word lists.calls_below lists.calls_on lists.calls_to lists.calls_by lists.round_calls lists.settled_calls lists.potential_list
every-potential-row = (refl, (refl, (refl, (refl, (refl, (refl, (refl, (refl, (refl, (refl, (refl, (refl, (refl, tt)))))))))))))
