-- `endpoint_calls::find` meets its contract. The loop's invariant: of the endpoints looked at, the one found is the first that has
-- the name. Assumes nothing.
use Prim.Native.Nat.{ℕ}
use lib.Dec.{eqb}
use Rattle.machine.specs.Table.{endpoint}
use Rattle.machine.specs.Queue as queue
use Rattle.kernel.proofs.LastToFirst.{From}
use Rattle.kernel.proofs.endpoint_calls.find.Given as goal

abbrev pub invariant-loop-e : goal.invariant-loop-e
invariant-loop-e l = From (λ (e : ℕ). eqb (queue.name (endpoint l.table e)) l.name) l.m l.e l.found
