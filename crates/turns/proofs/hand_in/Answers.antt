-- `hand_in` meets its contract: each check that refuses, in its order, and then the words are added. Assumes nothing.
use mathlib.Core.Path.{refl, sym, ◌∙◌}
use native.Mathlib.Omega.{arith}
use borrow.Author.Tests.{eqb-true}
use Rattle.turns_state.proofs.Blocks.{added_none, added-there}
use Rattle.turns.proofs.Codes.{hands-table, hands-domain, hands-call, hands-size, hands-room, hands-fine, hand-in-refused, hand-in-done}
use Rattle.turns.proofs.Outcomes.{table-some, stopped}
use Rattle.turns.proofs.hand_in.Goals as goal

pub returns-in_err-check : goal.returns-in_err-check
returns-in_err-check c =
    rw (stopped _ _ c.from_residual.ensures.1)
    (hand-in-refused _ _ _ _ _ (hands-table _ _ _ _ _ c.in_err-check.ensures (table-some _)) (table-some _) _ refl)

pub returns-then-n-domain : goal.returns-then-n-domain
returns-then-n-domain c =
    hand-in-refused _ _ _ _ _
    (hands-domain _ _ _ _ (sym c.in_ok-check.ensures) (omega (arith, c.domain_count-n.ensures, c.if-n-domain.true)))
    (λ z. omega arith) _ refl

pub returns-then-not-is_one_call : goal.returns-then-not-is_one_call
returns-then-not-is_one_call c =
    hand-in-refused _ _ _ _ _
    (hands-call _ _ _ _ (sym c.in_ok-check.ensures) (omega (arith, c.domain_count-n.ensures, c.if-n-domain.false)) (sym c.is_one_call.ensures ∙ c.if-not-is_one_call.true))
    (λ z. omega arith) _ refl

pub returns-then-not-fits : goal.returns-then-not-fits
returns-then-not-fits c =
    hand-in-refused _ _ _ _ _
    (hands-size _ _ _ _ (sym c.in_ok-check.ensures) (omega (arith, c.domain_count-n.ensures, c.if-n-domain.false)) (sym c.is_one_call.ensures ∙ c.if-not-is_one_call.false) (sym c.fits.ensures ∙ c.if-not-fits.true))
    (λ z. omega arith) _ refl

pub returns-then-not-add : goal.returns-then-not-add
returns-then-not-add c =
    let full = sym c.add.ensures.value ∙ c.if-not-add.true in
    hand-in-refused _ _ _ _ _
    (hands-room _ _ _ _ (sym c.in_ok-check.ensures) (omega (arith, c.domain_count-n.ensures, c.if-n-domain.false)) (sym c.is_one_call.ensures ∙ c.if-not-is_one_call.false) (eqb-true _ _ (sym c.fits.ensures ∙ c.if-not-fits.false)) full)
    (λ z. omega arith) _
    (c.add.ensures.state_after ∙ added_none _ _ _ full)

pub returns : goal.returns
returns c =
    let room = sym c.add.ensures.value ∙ c.if-not-add.false in
    hand-in-done _ _ _ _
    (hands-fine _ _ _ _ (sym c.in_ok-check.ensures) (omega (arith, c.domain_count-n.ensures, c.if-n-domain.false)) (sym c.is_one_call.ensures ∙ c.if-not-is_one_call.false) (eqb-true _ _ (sym c.fits.ensures ∙ c.if-not-fits.false)) room)
    _
    (c.add.ensures.state_after ∙ added-there _ _ _ room)
