-- The rows of pending words hold, each by computation (specs/Examples). Assumes nothing.
use mathlib.Core.Path.{refl}
use Rattle.turns_state.specs.Pending.{count, pending_in}
use Rattle.turns_state.specs.Examples.{EveryPendingRow, pending_rows}

pub every-pending-row : EveryPendingRow pending_rows
unfolding count pending_in
every-pending-row = (refl, (refl, (refl, (refl, (refl, tt)))))
