-- No bit is gathered where the slots passed are valid.
use Rattle.table_words.proofs.Wrong.{scan-none}
use Rattle.table_words.proofs.Scan.{scan-start}
use Rattle.table_words.proofs.endpoint.slots_ok.Goals as goal

pub loop-i-init : goal.loop-i-init
loop-i-init c = scan-start _ _

pub loop-i-preserved : goal.loop-i-preserved
loop-i-preserved c =
    scan-none _ _ _ _ _ c.loop-i.invariant c.loop-i-test.true c.slot_wrong-slot.ensures.valid
