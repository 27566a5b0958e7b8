-- `put_all` meets its contract: the loop's invariant is the second pass, partly done (proofs/Passes). Assumes nothing.
use Prim.Native.Nat.{◌*◌, ◌≤◌}
use mathlib.Core.Path.{◌≡◌}
use mathlib.Core.Bool.{true}
use mathlib.Core.List.{List}
use lib.ListN.{length}
use Rattle.calls.specs.declared.Call.{Call}
use Rattle.writer_theory.specs.Words.{all_fit, written}
use Rattle.writer.specs.Given.{Gives}
use Rattle.writer.proofs.Passes.{Putting}
use Rattle.writer.proofs.put_all.Given as goal

abbrev pub invariant-loop-i : goal.invariant-loop-i
invariant-loop-i g l = (l.at ≤ 2 * l.i)
    × ((cs : List Call) → Gives (goal.F-post g l.call_at) l.n cs → all_fit cs ≡ true → length (written cs) ≤ length l.initial.list
    → Putting cs l.initial.list l.list l.at l.i)
