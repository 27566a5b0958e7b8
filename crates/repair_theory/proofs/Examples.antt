-- The rows of the repair hold, each by computation (specs/Examples). Assumes nothing.
use mathlib.Core.Path.{refl}
use Rattle.machine.specs.Below.{words_below}
use Rattle.machine.proofs.Everything.{everything}
use Rattle.repair_theory.specs.Mend.{mended_rights, mended_endpoint, mended_at, mended, mendable}
use Rattle.repair_theory.specs.Changes.{differing, change_pairs, changes, put_back}
use Rattle.repair_theory.specs.Repair.{altered, altered_count, repair_code, refusal, repaired, repair}
use Rattle.repair_theory.specs.Examples.{EveryRow, sound_rows, rights_rows, queue_rows, list_rows, frame_rows, PutBackHolds}

-- one name for all that a row computes with
unfoldable rows-compute : Unit {0}
unfolding everything words_below
    mended_rights mended_endpoint mended_at mended mendable
    differing change_pairs changes put_back altered altered_count repair_code refusal repaired repair
rows-compute = tt

pub every-sound-row : EveryRow sound_rows
unfolding rows-compute
every-sound-row = (refl, (refl, tt))

pub every-rights-row : EveryRow rights_rows
unfolding rows-compute
every-rights-row = (refl, (refl, tt))

pub every-queue-row : EveryRow queue_rows
unfolding rows-compute
every-queue-row = (refl, (refl, tt))

pub every-list-row : EveryRow list_rows
unfolding rows-compute
every-list-row = (refl, (refl, (refl, tt)))

pub every-frame-row : EveryRow frame_rows
unfolding rows-compute
every-frame-row = (refl, (refl, (refl, (refl, (refl, (refl, tt))))))

pub put-back-rows : PutBackHolds
unfolding rows-compute
put-back-rows = (refl, refl, refl)
