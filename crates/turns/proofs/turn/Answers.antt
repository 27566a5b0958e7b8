-- `turn` meets its contract: the state's length refuses it, nothing is pending, there is no space for the answer, or the domain
-- that is next is served. Assumes nothing.
use mathlib.Core.Path.{sym, ◌∙◌}
use native.Mathlib.Omega.{arith}
use borrow.Author.Tests.{eqb-true, eqb-false}
use Rattle.turns_state.proofs.Next.{next-may}
use Rattle.turns.proofs.Serves.{unfit-turn, idle-turn, no-space-turn}
use Rattle.turns.proofs.turn.Goals as goal

pub returns-then-not-fits : goal.returns-then-not-fits
returns-then-not-fits c =
    unfit-turn _ _ _ _ _ (eqb-false _ _ (sym c.fits.ensures ∙ c.if-not-fits.true)) c.refused_or.ensures

pub returns-in_default : goal.returns-in_default
returns-in_default c =
    idle-turn _ _ _ _ _ _ (eqb-true _ _ (sym c.fits.ensures ∙ c.if-not-fits.false)) c.in_default.ensures c.idle.ensures.code c.idle.ensures.none_served

pub returns-then-answer-lt3 : goal.returns-then-answer-lt3
returns-then-answer-lt3 c =
    no-space-turn (eqb-true _ _ (sym c.fits.ensures ∙ c.if-not-fits.false)) (next-may _ _ _ c.in-Some.ensures).1 _ _ c.if-answer-lt3.true c.refused_or-then-answer-lt3.ensures

pub serve-requires : goal.serve-requires
serve-requires c =
    record {
      size = eqb-true _ _ (sym c.fits.ensures ∙ c.if-not-fits.false);
      next = (next-may _ _ _ c.in-Some.ensures).1;
      room = omega (arith, c.if-answer-lt3.false);
    }
