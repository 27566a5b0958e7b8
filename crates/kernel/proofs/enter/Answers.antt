-- `enter` meets its contract: the entry's places one after the other. Assumes nothing.
use mathlib.Core.Path.{sym, ap, ◌∙◌}
use borrow.Author.Tests.{eqb-true, eqb-false, ltb-true, ltb-false, not-true, not-false}
use Rattle.machine.proofs.Promise.{code-long, code-table, code-space, code-holders, holders-fit, holders-unfit}
use Rattle.table_check.proofs.Refusals.{refusal-code}
use Rattle.kernel.specs.Entered.{entered_code}
use Rattle.kernel.proofs.Outcomes.{stopped}
use Rattle.kernel.proofs.enter.Goals as goal

pub returns-then-list-gt-LONGEST_LIST : goal.returns-then-list-gt-LONGEST_LIST
returns-then-list-gt-LONGEST_LIST c = sym (code-long _ _ _ _ c.if-list-gt-LONGEST_LIST.true)

pub returns-in_err-check : goal.returns-in_err-check
returns-in_err-check c =
    let code = c.in_err-check.ensures in
    ap entered_code (stopped _ _ c.from_residual.ensures.1)
    ∙ code
    ∙ sym (code-table _ _ _ _ c.if-list-gt-LONGEST_LIST.false (λ none. refusal-code _ (code ∙ none)))

pub returns-then-not-has_space : goal.returns-then-not-has_space
returns-then-not-has_space c =
    sym
    (code-space _ _ _ _ c.if-list-gt-LONGEST_LIST.false (sym c.in_ok-check.ensures)
    (ltb-true _ _ (not-false _ (sym c.has_space.ensures ∙ c.if-not-has_space.true))))

pub returns-then-not-one_a_domain : goal.returns-then-not-one_a_domain
returns-then-not-one_a_domain c =
    sym
    (code-holders _ _ _ _ c.if-list-gt-LONGEST_LIST.false (sym c.in_ok-check.ensures) (ltb-false _ _ (not-true _ (sym c.has_space.ensures ∙ c.if-not-has_space.false)))
    ∙ holders-unfit _ _ (eqb-false _ _ (sym c.one_a_domain.ensures ∙ c.if-not-one_a_domain.true)))

pub returns : goal.returns
returns c =
    sym
    (code-holders _ _ _ _ c.if-list-gt-LONGEST_LIST.false (sym c.in_ok-check.ensures) (ltb-false _ _ (not-true _ (sym c.has_space.ensures ∙ c.if-not-has_space.false)))
    ∙ holders-fit _ _ (eqb-true _ _ (sym c.one_a_domain.ensures ∙ c.if-not-one_a_domain.false)))
