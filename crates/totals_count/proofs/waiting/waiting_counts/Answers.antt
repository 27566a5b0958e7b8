-- `waiting::waiting_counts` meets its contract: the counts are filled in one after the other. Assumes nothing.
use Rattle.std.proofs.Common.{refl, ap, ◌∙◌, arith}
use Rattle.machine.specs.Word.{payload}
use Rattle.machine.specs.Below.{words_below}
use Rattle.machine.specs.Table.{endpoint}
use Rattle.machine.specs.Queue.{waiting}
use Rattle.table_layout.proofs.Places.{endpoint-read}
use Rattle.totals_count.proofs.CountLaws.{fill-next}
use Rattle.totals_count.proofs.waiting.waiting_counts.Goals as goal

pub loop-e-init : goal.loop-e-init
unfolding words_below
loop-e-init c = refl

pub loop-e-preserved : goal.loop-e-preserved
unfolding waiting
loop-e-preserved c =
    let e = c.loop-e.e in
    let table = c.args.table.now in
    let read = endpoint-read table c.domains-n.result c.domains-n.ensures e 2 (omega arith) in
    fill-next c.loop-e.count-items (λ i. waiting (endpoint table i)) e (omega arith) c.loop-e.invariant
    (c.from.ensures ∙ ap payload (c.endpoint_word-word.ensures ∙ read))
