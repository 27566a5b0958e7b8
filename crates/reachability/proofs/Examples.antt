-- The rows of the closure hold, each by computation (specs/Examples). Assumes nothing.
use mathlib.Core.Path.{refl}
use Rattle.reachability.specs.Closure.{with_words, widened, rounds, closed}
use Rattle.reachability.specs.Examples.{EveryClosureRow, closure_rows}

pub every-closure-row : EveryClosureRow closure_rows
unfolding with_words widened rounds closed
every-closure-row = (refl, (refl, (refl, (refl, tt))))
