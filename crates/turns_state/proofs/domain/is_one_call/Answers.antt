-- `domain::is_one_call` meets its contract: the first word's caller, and no word after the call that it begins. Assumes nothing.
use mathlib.Core.Path.{sym, ap, ◌∙◌}
use native.Mathlib.Omega.{arith}
use borrow.Author.Tests.{eqb-true, eqb-false}
use lib.Dec.{eqb}
use lib.ListN.{length}
use Rattle.calls.specs.Split.{width_of}
use Rattle.turns_state.proofs.Words.{no_call, not-its-call, its-call}
use Rattle.turns_state.proofs.domain.is_one_call.Goals as goal

pub returns-then-is_empty : goal.returns-then-is_empty
returns-then-is_empty c = sym (no_call _ _ (eqb-true _ _ (sym c.if-is_empty.ensures)))

pub returns-then-not-is_call_of : goal.returns-then-not-is_call_of
returns-then-not-is_call_of c =
    sym (not-its-call _ _ (omega (arith, eqb-false _ _ (sym c.if-is_empty.ensures))) (sym c.is_call_of.ensures ∙ c.if-not-is_call_of.true))

pub returns : goal.returns
returns c =
    let ws = c.args.words.now in
    ap (eqb (length ws)) (c.width.ensures ∙ ap width_of c.second_of_first-second.ensures)
    ∙ sym (its-call c.args.domain ws (omega (arith, eqb-false _ _ (sym c.if-is_empty.ensures))) (sym c.is_call_of.ensures ∙ c.if-not-is_call_of.false))
