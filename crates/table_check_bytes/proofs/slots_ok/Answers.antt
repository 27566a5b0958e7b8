-- No bit is gathered where the slots passed are valid.
use Rattle.std.proofs.Common.{ap, ◌∙◌}
use Rattle.machine.specs.Check.{slot_word_ok}
use Rattle.table_words.proofs.Wrong.{scan-none}
use Rattle.table_words.proofs.Scan.{scan-start}
use Rattle.table_check_bytes.proofs.slots_ok.Goals as goal

pub loop-i-init : goal.loop-i-init
loop-i-init c = scan-start _ _

pub loop-i-preserved : goal.loop-i-preserved
loop-i-preserved c =
    scan-none _ _ _ _ _ c.loop-i.invariant c.loop-i-test.true
    (c.slot_wrong-wrong.ensures.valid ∙ ap (slot_word_ok _ _) c.nth_word.ensures)
