-- `sums::losses` meets its contract: the first endpoints balance. Assumes nothing.
use Rattle.std.proofs.Common.{◌≡◌, length}
use Rattle.totals_add.specs.Balance.{Balances}
use Rattle.totals_add.proofs.sums.losses.Given as goal

abbrev pub invariant-loop-e : goal.invariant-loop-e
invariant-loop-e l = (length l.lost ≡ 32) × Balances l.e l.counted.sent l.received l.before l.after l.lost
