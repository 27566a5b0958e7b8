-- `order::first_waiting` meets its contract: from the place of the turn on, and then from 0. Assumes nothing.
use mathlib.Core.Path.{◌∙◌}
use Rattle.turns_state.specs.State.{turns_in}
use Rattle.turns_state.proofs.Next.{one-there, none-there}
use Rattle.turns_state.proofs.order.first_waiting.Goals as goal

pub returns-in-Some : goal.returns-in-Some
unfolding turns_in
returns-in-Some c = one-there c.args.n (turns_in c.args.state.now) _ c.in-Some.ensures

pub returns-in-None : goal.returns-in-None
unfolding turns_in
returns-in-None c = c.first_from-in-None.ensures ∙ none-there c.args.n (turns_in c.args.state.now) c.in-None.ensures
