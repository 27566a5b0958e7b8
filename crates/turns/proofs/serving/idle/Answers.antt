-- `serving::idle` meets its contract: the entry refuses, or nothing does. Assumes nothing.
use mathlib.Core.Path.{ap, ◌∙◌}
use Rattle.turns.specs.Codes.{turned_code, turned_served}
use Rattle.turns.proofs.Outcomes.{stopped}
use Rattle.turns.proofs.serving.idle.Goals as goal

pub returns-in_err-enter_step : goal.returns-in_err-enter_step
returns-in_err-enter_step c =
    let ends = stopped _ _ c.from_residual.ensures.1 in
    record { code = ap turned_code ends ∙ c.in_err-enter_step.ensures; none_served = ap turned_served ends }
