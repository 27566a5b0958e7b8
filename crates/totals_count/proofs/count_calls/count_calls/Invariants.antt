-- `count_calls::count_calls` meets its contract: what is counted so far plus what the remaining calls count is what the list
-- counts. Assumes nothing.
use Rattle.std.proofs.Common.{◌*◌, ◌-◌, ◌≤◌, length}
use Rattle.machine.specs.Counts.{is_send, is_receive}
use Rattle.totals_count.proofs.CountLaws.{Counting}
use Rattle.totals_count.proofs.count_calls.count_calls.Given as goal

abbrev pub invariant-loop-i : goal.invariant-loop-i
invariant-loop-i l =
    Counting is_send l.list l.answers l.sent l.at l.i × Counting is_receive l.list l.answers l.received l.at l.i × (l.i ≤ length l.list) × (l.at ≤ 3 * l.i)

abbrev pub decreases-loop-i : goal.decreases-loop-i
decreases-loop-i l = length l.list - l.i
