-- `Tally::add_counts` meets its contract. Assumes nothing.
use Rattle.totals_add.proofs.SumLaws.{CountsOf, sent-at, received-at, can-balance, lost-at, added-words}
use Rattle.totals_add.proofs.Tally.add_counts.Goals as goal

pub losses-full-requires : goal.losses-full-requires
losses-full-requires c =
    can-balance (record {
      countable = c.requires;
      sends_are = c.count_calls-counted.ensures.sent_is;
      receives_are = c.count_calls-counted.ensures.received_is;
      after_is = c.waiting_counts-after.ensures;
    }) _ c.endpoints-m.ensures

pub returns : goal.returns
returns c =
    let counted = c.count_calls-counted.result in
    let x : CountsOf c.args.table.now c.args.list.now c.args.answers.now c.args.before.now counted.sent counted.received c.waiting_counts-after.result =
    record {
      countable = c.requires;
      sends_are = c.count_calls-counted.ensures.sent_is;
      receives_are = c.count_calls-counted.ensures.received_is;
      after_is = c.waiting_counts-after.ensures;
    }
    in
    let table = c.args.table.now in
    let m = c.endpoints-m.ensures in
    record {
      sent_added = added-words table _ counted.sent _ _ m (sent-at x) c.add_each.ensures;
      received_added = added-words table _ counted.received _ _ m (received-at x) c.add_each-2.ensures;
      lost_added = added-words table _ c.losses-full.result _ _ m (lost-at x _ _ m c.losses-full.ensures) c.add_each-3.ensures;
    }
