-- `reports::show_holders` meets its contract: the entry refuses, or the holders are computed. Assumes nothing.
use mathlib.Core.Path.{sym, ◌∙◌}
use Rattle.holders.proofs.Filled.{filled-accepted}
use Rattle.kernel.proofs.Outcomes.{stopped}
use Rattle.kernel.proofs.Entries.{holders-refused, step-entered, holders-shown}
use Rattle.kernel.proofs.reports.show_holders.Goals as goal

pub returns-in_err-enter_step : goal.returns-in_err-enter_step
returns-in_err-enter_step c = rw (stopped _ _ c.from_residual.ensures.1) (holders-refused _ _ _ c.in_err-enter_step.ensures)

pub returns : goal.returns
returns c =
    let e = sym c.in_ok-enter_step.ensures in
    let fit = step-entered _ _ e in
    holders-shown _ _ _ e (c.fill.ensures ∙ filled-accepted _ _ fit.0 fit.1)
