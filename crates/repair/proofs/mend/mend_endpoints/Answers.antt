-- `mend_endpoints` meets its contract: the endpoints passed are mended, each lent as a part of the table. Assumes nothing.
use mathlib.Core.Path.{subst}
use native.Mathlib.Nat.{le_antisymm}
use native.Mathlib.Numerals.{add-one-le}
use native.Mathlib.Omega.{arith}
use Rattle.machine.specs.Table.{domains, endpoints}
use Rattle.machine.proofs.Table.{Sized}
use Rattle.table_check.proofs.Places.{headed-most, headed-size}
use Rattle.repair.specs.Passes.{EndpointsMended}
use Rattle.repair_theory.proofs.Mended.{headed-sized}
use Rattle.repair.proofs.MendPasses.{endpoints-start, endpoints-next}
use Rattle.repair.proofs.mend.mend_endpoints.Goals as goal

pub loop-e-init : goal.loop-e-init
loop-e-init c =
    let h = c.requires in
    (endpoints-start _, omega arith, headed-most _ h, headed-size _ h)

pub loop-e-preserved : goal.loop-e-preserved
unfolding domains endpoints
loop-e-preserved c =
    let i = c in
    let l = i.loop-e in
    (endpoints-next l.invariant.0 ((let the_sized : Sized i.args.table.now = headed-sized _ i.requires in the_sized)) i.loop-e-test.true _ c.mend_endpoint.ensures, add-one-le i.loop-e-test.true, l.invariant.2, l.invariant.3)

pub returns : goal.returns
unfolding endpoints
returns c =
    let l = c.loop-e in
    subst (EndpointsMended _ _) (le_antisymm l.invariant.1 c.loop-e-test.false) l.invariant.0

pub bounds-table-0 : goal.bounds-table-0
bounds-table-0 c = omega (arith, headed-size _ c.requires)
