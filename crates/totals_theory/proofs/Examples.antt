-- The rows hold, each by computation (specs/Examples). Assumes nothing.
use mathlib.Core.Path.{refl}
use Rattle.machine.proofs.Everything.{everything}
use Rattle.totals_theory.specs.Totals.{no_counts, together, list_totals, totals}
use Rattle.totals_theory.specs.Examples.{EveryRow, rows}

pub every-row : EveryRow rows
unfolding everything no_counts together list_totals totals
every-row = (refl, (refl, (refl, tt)))
