-- `measure` meets its contract: the loop's invariant is the first pass, partly done (proofs/Passes). Assumes nothing.
use Prim.Native.Nat.{◌*◌, ◌≤◌}
use mathlib.Core.List.{List}
use Rattle.calls.specs.declared.Call.{Call}
use Rattle.writer.specs.Given.{Gives}
use Rattle.writer.proofs.Passes.{Measuring}
use Rattle.writer.proofs.measure.Given as goal

abbrev pub invariant-loop-i : goal.invariant-loop-i
invariant-loop-i g l = (l.words ≤ 2 * l.i) × ((cs : List Call) → Gives (goal.F-post g l.call_at) l.n cs → Measuring cs l.words l.i)
