-- `waiting::waiting_counts` meets its contract: the counts are filled in one after the other. Assumes nothing.
use Rattle.std.proofs.Common.{◌≡◌, take}
use Rattle.machine.specs.Below.{words_below}
use Rattle.machine.specs.Table.{endpoint}
use Rattle.machine.specs.Queue.{waiting}
use Rattle.totals_count.proofs.waiting.waiting_counts.Given as goal

abbrev pub invariant-loop-e : goal.invariant-loop-e
invariant-loop-e l = take l.e l.count-items ≡ words_below l.e (λ i. waiting (endpoint l.table i))
