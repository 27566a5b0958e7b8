-- `first_of_oldest` meets its contract. Assumes nothing.
use native.Mathlib.Omega.{arith}
use Rattle.turns_state.proofs.Blocks.{short-first, first-word}
use Rattle.turns_state.proofs.first_of_oldest.Goals as goal

pub returns-then-state-at : goal.returns-then-state-at
returns-then-state-at c = short-first _ _ c.if-state-at.true

pub returns : goal.returns
returns c = first-word _ _ (omega (arith, c.if-state-at.false))
