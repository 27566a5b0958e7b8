-- `store` meets its contract: the two counts, then the slots one after the other. Assumes nothing.
use Rattle.std.proofs.Common.{refl, length-set}
use Rattle.ring_theory.specs.Ring.{count, lost_count, stored_queue}
use Rattle.ring_theory.proofs.Filled.{fill_start, fill-next, behind-two}
use Rattle.ring.proofs.Words.{of-twelve}
use Rattle.ring.proofs.store.Goals as goal

pub loop-i-init : goal.loop-i-init
loop-i-init c = fill_start _ _ _ (simp length-set c.if-q-ne-ENDPOINT_WORDS.false) refl

pub loop-i-preserved : goal.loop-i-preserved
loop-i-preserved c = fill-next _ _ _ _ _ c.loop-i.invariant c.loop-i-test.true c.store_slot.ensures

pub returns : goal.returns
unfolding stored_queue count lost_count
returns c =
    let long = c.if-q-ne-ENDPOINT_WORDS.false in
    of-twelve _ _ _ c.if-ring-ne-ENDPOINT_WORDS.false
    (of-twelve _ _ _ long (behind-two _ c.args.q.now _ _ long c.loop-i-test.false _ _ c.loop-i.invariant))
