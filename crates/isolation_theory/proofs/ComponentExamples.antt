-- The rows of components hold, each by computation (specs/ComponentExamples). Assumes nothing.
use mathlib.Core.Path.{refl}
use Rattle.machine.specs.Below.{words_below, bits_below, has_bit}
use Rattle.machine.specs.DomainSet.{from_group}
use Rattle.machine.proofs.Everything.{everything}
use Rattle.reachability.specs.Closure.{with_words, widened, rounds, closed}
use Rattle.reachability.specs.Chain.{link_words}
use Rattle.isolation_theory.specs.Component.{joined, component, calls_from, component_calls}
use Rattle.isolation_theory.specs.ComponentExamples.{kept, EveryComponentRow, component_rows}

pub every-component-row : EveryComponentRow component_rows
unfolding everything words_below bits_below has_bit from_group with_words widened rounds closed link_words joined component calls_from component_calls kept
every-component-row = (refl, (refl, (refl, (refl, (refl, tt)))))
