-- `begin` meets its contract: the state's length refuses it, or the entry does, or it is done. Assumes nothing.
use mathlib.Core.Path.{refl, sym, ◌∙◌}
use native.Mathlib.Omega.{arith}
use borrow.Author.Tests.{eqb-true, eqb-false}
use Rattle.turns.specs.Codes.{bad_turns}
use Rattle.turns.proofs.Codes.{then_some, begin-unfit, begin-fit, begin-refused, begin-done, holders-stay}
use Rattle.turns.proofs.Outcomes.{entry-some, stopped}
use Rattle.turns.proofs.begin.Goals as goal

pub returns-then-not-fits : goal.returns-then-not-fits
returns-then-not-fits c =
    let a = c.args in
    let is = c.refused_or.ensures in
    let other = eqb-false _ _ (sym c.fits.ensures ∙ c.if-not-fits.true) in
    begin-refused _ _ _ _ (is ∙ sym (begin-unfit a.table.now a.state.now a.holders.now other)) (λ z. then_some _ bad_turns (λ e. omega arith) (sym is ∙ z)) _ refl

pub returns-in_err-show_holders : goal.returns-in_err-show_holders
returns-in_err-show_holders c =
    let a = c.args in
    let shown = c.in_err-show_holders.ensures in
    let size = eqb-true _ _ (sym c.fits.ensures ∙ c.if-not-fits.false) in
    rw (stopped _ _ c.from_residual.ensures.1)
    (begin-refused _ _ _ _ (shown.same_code ∙ sym (begin-fit a.table.now a.state.now a.holders.now size)) (entry-some _) _ (holders-stay _ _ _ _ shown (entry-some _)))

pub returns : goal.returns
returns c =
    begin-done _ _ _ (eqb-true _ _ (sym c.fits.ensures ∙ c.if-not-fits.false)) _ _ _ refl c.clear.ensures c.in_ok-show_holders.ensures
