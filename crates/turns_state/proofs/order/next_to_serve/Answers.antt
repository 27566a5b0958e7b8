-- `order::next_to_serve` meets its contract. Assumes nothing.
use mathlib.Core.Path.{sym, ◌∙◌}
use Rattle.turns_state.proofs.Next.{next-size, next-waiting}
use Rattle.turns_state.proofs.order.next_to_serve.Goals as goal

pub returns-then-state-n : goal.returns-then-state-n
returns-then-state-n c = rw (sym c.domain_count-n.ensures) (sym (next-size _ _ c.if-state-n.true))

pub returns : goal.returns
returns c = rw (sym c.domain_count-n.ensures) (c.first_waiting.ensures ∙ sym (next-waiting _ _ c.if-state-n.false))
