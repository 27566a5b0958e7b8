-- `run_list::run_calls` meets its contract: the loop's invariant is a run under way (proofs/RunInvariant). Assumes nothing.
use Prim.Native.Nat.{◌-◌}
use lib.ListN.{length}
use Rattle.kernel.proofs.OutcomeLaws.{OnItsWay}
use Rattle.kernel.proofs.run_list.run_calls.Given as goal

abbrev pub invariant-loop-i : goal.invariant-loop-i
invariant-loop-i l =
    OnItsWay l.n l.m l.initial.table l.list l.initial.answers l.initial.holders l.table l.answers l.holders l.calls l.i

abbrev pub decreases-loop-i : goal.decreases-loop-i
decreases-loop-i l = length l.list - l.i
