-- `reports::enter_step` meets its contract: the table is refused, or the holders are, or neither. Assumes nothing.
use mathlib.Core.Path.{sym, ap, ◌∙◌}
use borrow.Author.Tests.{eqb-true, eqb-false}
use Rattle.machine.proofs.Promise.{holders-fit, holders-unfit}
use Rattle.table_check.proofs.Refusals.{refusal-code}
use Rattle.kernel.specs.Entered.{entered_code}
use Rattle.kernel.proofs.Outcomes.{stopped}
use Rattle.kernel.proofs.Entries.{step-table, step-holders}
use Rattle.kernel.proofs.reports.enter_step.Goals as goal

pub returns-in_err-check : goal.returns-in_err-check
returns-in_err-check c =
    let code = c.in_err-check.ensures in
    ap entered_code (stopped _ _ c.from_residual.ensures.1) ∙ code ∙ sym (step-table _ _ (λ none. refusal-code _ (code ∙ none)))

pub returns-then-not-one_a_domain : goal.returns-then-not-one_a_domain
returns-then-not-one_a_domain c =
    sym (step-holders _ _ (sym c.in_ok-check.ensures) ∙ holders-unfit _ _ (eqb-false _ _ (sym c.one_a_domain.ensures ∙ c.if-not-one_a_domain.true)))

pub returns : goal.returns
returns c =
    sym (step-holders _ _ (sym c.in_ok-check.ensures) ∙ holders-fit _ _ (eqb-true _ _ (sym c.one_a_domain.ensures ∙ c.if-not-one_a_domain.false)))
