-- `load_rings` meets its contract: the rings are loaded one after the other. Assumes nothing.
use Rattle.std.proofs.Common.{sym, ◌∙◌, arith}
use Rattle.working_load.proofs.LoadLoop.{taken_next, taking-end, taken-all}
use Rattle.working_load.proofs.load_rings.Goals as goal

pub loop-e-preserved : goal.loop-e-preserved
loop-e-preserved c =
    let inv = c.loop-e.invariant in
    (taken_next _ _ _ _ _ inv.0 c.loop-e-test.true (record { few = inv.1.few; there = inv.1.there; twelve = inv.0.size }) _ c.endpoint_at-start.ensures _ c.load.ensures, inv.1)

pub returns : goal.returns
returns c =
    taken-all _ _ c.args.table.now c.args.rings.now _ (sym c.has_queues.ensures ∙ c.if-not-has_queues.false)
    (taking-end _ _ _ _ _ c.loop-e.invariant.0 (omega arith))
