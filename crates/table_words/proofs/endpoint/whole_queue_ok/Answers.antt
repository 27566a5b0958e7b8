-- The slots are tested by the waiting word, and by the count in the machine's `queue_ok`.
use mathlib.Core.Path.{ap₂, ◌∙◌}
use mathlib.Core.Bool.{◌&&◌}
use Rattle.table_words.proofs.Counted.{by_waiting}
use Rattle.table_words.proofs.endpoint.whole_queue_ok.Goals as goal

pub returns : goal.returns
returns c =
    ap₂ ◌&&◌ (ap₂ ◌&&◌ c.waiting_word_ok-waiting.ensures c.lost_word_ok-lost.ensures) c.slots_ok-slots.ensures
    ∙ by_waiting _
