-- `sums::add_each` meets its contract: the totals of the first endpoints are added to. Assumes nothing.
use Rattle.std.proofs.Common.{◌≡◌, get_or}
use Rattle.totals_add.specs.Added.{added_below}
use Rattle.totals_add.proofs.sums.add_each.Given as goal

abbrev pub invariant-loop-e : goal.invariant-loop-e
invariant-loop-e l = l.totals ≡ added_below l.e l.initial.totals (λ i. get_or l.counts i 0)
