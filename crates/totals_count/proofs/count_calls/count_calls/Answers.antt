-- `count_calls::count_calls` meets its contract: what is counted so far plus what the remaining calls count is what the list
-- counts. Assumes nothing.
use Rattle.std.proofs.Common.{◌+◌, ◌≡◌, ap, ◌∙◌, arith}
use Rattle.machine.specs.Counts.{is_send, is_receive}
use Rattle.calls.specs.Split.{second_at, width_of}
use Rattle.calls.proofs.SplitAt as splits
use Rattle.totals_count.proofs.CountLaws.{Counting, adds-one, counting-start, counting-next, counting-other, counting-end}
use Rattle.totals_count.proofs.CountLaws.{counted-few, sends-are, receives-are}
use Rattle.totals_count.proofs.count_calls.count_calls.Goals as goal
use Rattle.totals_count.proofs.count_calls.count_calls.Goals.{then-e-lt-ENDPOINT_PLACES, else-e-lt-ENDPOINT_PLACES}

pub loop-i-init : goal.loop-i-init
loop-i-init c = (counting-start is_send _ _, counting-start is_receive _ _, omega arith, omega arith)

pub overflow_add-sent : goal.overflow_add-sent
overflow_add-sent c = omega (
  arith,
  adds-one c.args.list.now c.args.answers.now c.loop-i.at c.loop-i.i 2 c.word-answer.ensures c.done.ensures c.from.ensures,
  counted-few 2 sends-are c.loop-i-test.true c.loop-i.invariant.0 c.if-e-lt-ENDPOINT_PLACES.true,
)

pub overflow_add-received : goal.overflow_add-received
overflow_add-received c = omega (
  arith,
  adds-one c.args.list.now c.args.answers.now c.loop-i.at c.loop-i.i 3 c.word-answer.ensures c.done-then-e-lt-ENDPOINT_PLACES.ensures c.from-then-e-lt-ENDPOINT_PLACES.ensures,
  counted-few 3 receives-are c.loop-i-test.true c.loop-i.invariant.1 c.if-e-lt-ENDPOINT_PLACES.true,
)

pub loop-i-preserved : goal.loop-i-preserved
loop-i-preserved c =
    let list = c.args.list.now in
    let i = c.loop-i.i in
    let inside = c.loop-i-test.true in
    let inv = c.loop-i.invariant in
    let answers = c.args.answers.now in
    let at = c.loop-i.at in
    let next = i + width_of (second_at list i) in
    let counted : Counting is_send list answers c.if-e-lt-ENDPOINT_PLACES.sent (at + 3) next × Counting is_receive list answers c.if-e-lt-ENDPOINT_PLACES.received (at + 3) next =
    elim c.if-e-lt-ENDPOINT_PLACES.branch [
      | then-e-lt-ENDPOINT_PLACES w ↦ (
        rw w.sent-is
            (counting-next 2 sends-are inside inv.0 (adds-one list answers at i 2 c.word-answer.ensures w.done.ensures w.from.ensures)),
        rw w.received-is
            (counting-next 3 receives-are inside inv.1
            (adds-one list answers at i 3 c.word-answer.ensures w.done-then-e-lt-ENDPOINT_PLACES.ensures w.from-then-e-lt-ENDPOINT_PLACES.ensures)),
      )
      | else-e-lt-ENDPOINT_PLACES w ↦ (
        rw w.sent-is (counting-other 2 sends-are inside inv.0 w.if-e-lt-ENDPOINT_PLACES.false),
        rw w.received-is (counting-other 3 receives-are inside inv.1 w.if-e-lt-ENDPOINT_PLACES.false),
      )
    ]
    in
    let cut = splits.split_at list i inside in
    let width : c.width-i.result ≡ width_of (second_at list i) = c.width-i.ensures ∙ ap width_of c.second_at.ensures in
    rw width (counted.0, counted.1, omega (arith, cut.within), omega (arith, splits.wide (second_at list i)))

pub returns : goal.returns
returns c = record {
  sent_is = counting-end c.loop-i.invariant.0 c.loop-i-test.false;
  received_is = counting-end c.loop-i.invariant.1 c.loop-i-test.false;
}
