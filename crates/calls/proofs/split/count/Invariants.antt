-- `split::count` meets its contract. The invariant says what remains (proofs/Counted).
-- Assumes nothing.
use Prim.Native.Nat.{◌≤◌}
use Rattle.calls.proofs.Counted.{Counted}
use Rattle.calls.proofs.split.count.Given as goal

abbrev pub invariant-loop-word : goal.invariant-loop-word
invariant-loop-word l = (l.calls ≤ l.word-index) × Counted l.list l.calls l.before l.word-index
