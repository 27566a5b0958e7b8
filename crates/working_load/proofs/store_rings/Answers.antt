-- `store_rings` meets its contract: the rings are stored one after the other. Assumes nothing.
use Rattle.std.proofs.Common.{sym, ◌∙◌, arith}
use Rattle.working_load.proofs.StoreLoop.{put_next, out-end, out-all}
use Rattle.working_load.proofs.store_rings.Goals as goal

pub loop-e-preserved : goal.loop-e-preserved
loop-e-preserved c =
    let inv = c.loop-e.invariant in
    (put_next _ _ _ _ _ _ inv.0 inv.1 c.loop-e-test.true _ c.endpoint_at-first.ensures _ c.store.ensures, inv.1)

pub returns : goal.returns
returns c =
    out-all _ _ c.args.rings.now c.args.table.now _ (sym c.has_queues.ensures ∙ c.if-not-has_queues.false)
    (out-end _ _ _ _ _ _ c.loop-e.invariant.0 (omega arith))
