-- `mend_copy` meets its contract: what is mended in the copy is the table. Assumes nothing.
use mathlib.Core.Path.{ap, ◌∙◌}
use lib.Dec.{eqb}
use Rattle.machine.specs.Check.{table_code}
use Rattle.repair_theory.specs.Mend.{mended}
use Rattle.repair_theory.proofs.Claims.{accepted-exactly}
use Rattle.repair.proofs.Outcomes.{ok-is}
use Rattle.repair.proofs.mend_copy.Goals as goal

pub returns-clause-value : goal.returns-clause-value
returns-clause-value c =
    let mends = c.mend.ensures ∙ ap mended c.copy_from_slice.ensures.after in
    c.is_ok.ensures.value
    ∙ ok-is _
    ∙ ap (λ k. eqb k 0) (c.check.ensures ∙ ap table_code mends)
    ∙ accepted-exactly _
