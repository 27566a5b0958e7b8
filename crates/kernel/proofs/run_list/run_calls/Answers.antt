-- `run_list::run_calls` meets its contract: the loop's invariant is a run under way (proofs/RunInvariant). Assumes nothing.
use mathlib.Core.Path.{◌∙◌}
use native.Mathlib.Omega.{arith}
use borrow.Author.Rules.{rules}
use Rattle.machine.proofs.Split.{split-few}
use Rattle.holders.proofs.Filled.{filled-accepted}
use Rattle.answers.proofs.Space.{lent_back}
use Rattle.kernel.proofs.RunInvariant.{underway-start, room, next-place, underway-end}
use Rattle.kernel.proofs.OutcomeLaws.{way_next}
use Rattle.kernel.proofs.run_list.run_calls.Goals as goal

pub loop-i-init : goal.loop-i-init
loop-i-init c =
    record {
      underway =
          underway-start _ _ _ _ c.requires.accepted (c.fill.ensures ∙ filled-accepted _ _ c.requires.accepted c.requires.one_a_domain);
      domains = c.domains-n.ensures;
      endpoints = c.endpoints-m.ensures;
    }

pub overflow_add-i : goal.overflow_add-i
overflow_add-i c =
    omega (arith, next-place c.loop-i.invariant.underway c.loop-i-test.true _ _ c.second_at-second.ensures c.width-i.ensures, c.requires.not_too_long)

pub answer_call-words-requires : goal.answer_call-words-requires
answer_call-words-requires c =
    let y = c.loop-i.invariant in
    record { accepted = y.underway.accepted; same_domains = y.domains; same_endpoints = y.endpoints; same_holders = y.underway.holders }

pub overflow_mul-at : goal.overflow_mul-at
overflow_mul-at c =
    omega (arith, c.loop-i.invariant.underway.running.count, split-few c.args.list.now, c.requires.not_too_long)

pub overflow_add-end : goal.overflow_add-end
overflow_add-end c =
    omega (arith, c.loop-i.invariant.underway.running.count, split-few c.args.list.now, c.requires.not_too_long)

pub offset_bounds-answers-at : goal.offset_bounds-answers-at
offset_bounds-answers-at c =
    omega (arith, c.loop-i.invariant.underway.running.count, split-few c.args.list.now, c.requires.not_too_long)

pub slice_bounds-put-end : goal.slice_bounds-put-end
slice_bounds-put-end c = room c.loop-i.invariant.underway c.loop-i-test.true c.requires.has_space

pub overflow_add-calls : goal.overflow_add-calls
overflow_add-calls c =
    omega (arith, c.loop-i.invariant.underway.running.count, split-few c.args.list.now, c.requires.not_too_long)

pub loop-i-smaller : goal.loop-i-smaller
loop-i-smaller c =
    omega (arith, next-place c.loop-i.invariant.underway c.loop-i-test.true _ _ c.second_at-second.ensures c.width-i.ensures)

pub loop-i-preserved : goal.loop-i-preserved
loop-i-preserved c =
    way_next c.loop-i.invariant c.loop-i-test.true _ _ _ _ _ _ c.second_at-second.ensures c.width-i.ensures c.answer_call-words.ensures c.answer_call-words.auto.holders
    (lent_back _ _ _ _ (room c.loop-i.invariant.underway c.loop-i-test.true c.requires.has_space) c.put.ensures)
    (search rules)

pub shape_of-table : goal.shape_of-table
shape_of-table c = c.loop-i.invariant.underway.table_size

pub shape_of-answers : goal.shape_of-answers
shape_of-answers c = c.loop-i.invariant.underway.space_size

pub shape_of-holders : goal.shape_of-holders
shape_of-holders c = c.loop-i.invariant.underway.holders_size ∙ c.fill.auto.holders

pub returns : goal.returns
returns c = underway-end c.loop-i.invariant.underway c.loop-i-test.false
