-- `run_list::run_list` meets its contract: the loop's invariant is that of a run on a working state (proofs/RunInvariant).
-- Assumes nothing.
use mathlib.Core.List.{List}
use Prim.Native.Nat.{ℕ, ◌-◌}
use lib.ListN.{length}
use Rattle.working.specs.Run.{working, leaves, RepresentsTable}
use Rattle.working.proofs.RunInvariant.{OnItsWay}
use Rattle.working.proofs.run_list.run_list.Given as goal

abbrev pub invariant-loop-i : goal.invariant-loop-i
invariant-loop-i l =
    (t : List ℕ)
    → RepresentsTable (working l.n l.m l.initial.rows l.initial.rings l.names l.owned l.initial.holders) t
    → OnItsWay (working l.n l.m l.initial.rows l.initial.rings l.names l.owned l.initial.holders) t l.list l.initial.answers (leaves l.calls l.rows l.rings l.answers l.holders) l.i

abbrev pub decreases-loop-i : goal.decreases-loop-i
decreases-loop-i l = length l.list - l.i
