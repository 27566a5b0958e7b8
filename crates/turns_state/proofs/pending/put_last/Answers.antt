-- `put_last` meets its contract: the words are after those that were pending. Assumes nothing.
use native.Mathlib.Omega.{arith}
use Rattle.turns_state.proofs.Laws.{enqueue-end}
use Rattle.turns_state.proofs.pending.put_last.Goals as goal

pub returns : goal.returns
returns c = enqueue-end _ _ _ _ _ (omega (arith, c.requires.size)) c.copy_from_slice.ensures.after c.count-pending.ensures.value (omega arith)
