-- `step` meets its contract: its entry refuses, or the holders are worked out and the call is served. Assumes nothing.
use mathlib.Core.Path.{sym, ◌∙◌}
use Rattle.holders.proofs.Filled.{filled-accepted}
use Rattle.kernel.proofs.Outcomes.{stopped}
use Rattle.kernel.proofs.Entries.{step-entered, step-refused, step-served}
use Rattle.kernel.proofs.step.Goals as goal

pub returns-in_err-enter_step : goal.returns-in_err-enter_step
returns-in_err-enter_step c = rw (stopped _ _ c.from_residual.ensures.1) (step-refused _ _ _ _ c.in_err-enter_step.ensures)

pub answer_call-requires : goal.answer_call-requires
answer_call-requires c =
    let fit = step-entered _ _ (sym c.in_ok-enter_step.ensures) in
    record {
      accepted = fit.0;
      same_domains = c.domains-n.ensures;
      same_endpoints = c.endpoints-m.ensures;
      same_holders = c.fill.ensures ∙ filled-accepted _ _ fit.0 fit.1;
    }

pub returns : goal.returns
returns c = step-served _ _ _ _ _ _ (sym c.in_ok-enter_step.ensures) c.answer_call.ensures
