-- `run_list::run_list` meets its contract: the loop's invariant is that of a run on a working state (proofs/RunInvariant).
-- Assumes nothing.
use mathlib.Core.Path.{sym, ◌∙◌}
use Prim.Native.Nat.{◌+◌, ◌≤◌}
use native.Mathlib.Omega.{arith}
use lib.ListN.{length}
use borrow.Author.Rules.{rules}
use Rattle.machine.proofs.Split.{split-few}
use Rattle.calls.proofs.SplitAt.{split_at, wide}
use Rattle.answers.proofs.Space.{lent_back}
use Rattle.kernel.proofs.RunInvariant.{room}
use Rattle.working.proofs.RunInvariant.{way-start, way_next, way_end}
use Rattle.working.proofs.run_list.run_list.Goals as goal

pub loop-i-init : goal.loop-i-init
loop-i-init c t s = way-start _ c.args.hints.now _ _ t s

pub overflow_add-i : goal.overflow_add-i
overflow_add-i c =
    let next_place : (c.loop-i.i + c.width-i.result ≤ length c.args.list.now) × (1 ≤ c.width-i.result) = (
      rw (c.width-i.ensures, c.second_at-second.ensures) (split_at c.args.list.now c.loop-i.i c.loop-i-test.true).within,
      omega (arith, c.width-i.ensures, wide c.second_at-second.result),
    )
    in
    omega (arith, next_place, c.requires.list_len_bound)

pub overflow_mul-at : goal.overflow_mul-at
overflow_mul-at c =
    let the_few : c.loop-i.calls ≤ 4096 =
    omega (arith, (c.loop-i.invariant _ c.requires.represents_some.stands).underway.running.count, split-few c.args.list.now, c.requires.list_len_bound) in
    omega arith

pub overflow_add-end : goal.overflow_add-end
overflow_add-end c =
    let the_few : c.loop-i.calls ≤ 4096 =
    omega (arith, (c.loop-i.invariant _ c.requires.represents_some.stands).underway.running.count, split-few c.args.list.now, c.requires.list_len_bound) in
    omega arith

pub offset_bounds-answers-at : goal.offset_bounds-answers-at
offset_bounds-answers-at c =
    let the_few : c.loop-i.calls ≤ 4096 =
    omega (arith, (c.loop-i.invariant _ c.requires.represents_some.stands).underway.running.count, split-few c.args.list.now, c.requires.list_len_bound) in
    omega arith

pub slice_bounds-put-end : goal.slice_bounds-put-end
slice_bounds-put-end c =
    room (c.loop-i.invariant _ c.requires.represents_some.stands).underway c.loop-i-test.true c.requires.list_in_bounds

pub overflow_add-calls : goal.overflow_add-calls
overflow_add-calls c =
    let the_few : c.loop-i.calls ≤ 4096 =
    omega (arith, (c.loop-i.invariant _ c.requires.represents_some.stands).underway.running.count, split-few c.args.list.now, c.requires.list_len_bound) in
    omega arith

pub loop-i-smaller : goal.loop-i-smaller
loop-i-smaller c =
    let next_place : (c.loop-i.i + c.width-i.result ≤ length c.args.list.now) × (1 ≤ c.width-i.result) = (
      rw (c.width-i.ensures, c.second_at-second.ensures) (split_at c.args.list.now c.loop-i.i c.loop-i-test.true).within,
      omega (arith, c.width-i.ensures, wide c.second_at-second.result),
    )
    in
    omega (arith, next_place)

pub loop-i-preserved : goal.loop-i-preserved
loop-i-preserved c t s =
    way_next _ _ _ _ _ _ _ (c.loop-i.invariant t s) c.loop-i-test.true _ _ _ _ _ _ _ c.second_at-second.ensures c.width-i.ensures
    c.serve-words.ensures
    c.serve-words.auto.holders
    (lent_back _ _ _ _ (room (c.loop-i.invariant _ c.requires.represents_some.stands).underway c.loop-i-test.true c.requires.list_in_bounds) c.put.ensures)
    (search rules)

pub shape_of-rings : goal.shape_of-rings
shape_of-rings c =
    let s = c.requires.represents_some.stands in
    (c.loop-i.invariant _ s).state.size ∙ sym s.state.size

pub shape_of-answers : goal.shape_of-answers
shape_of-answers c = (c.loop-i.invariant _ c.requires.represents_some.stands).underway.space_size

pub shape_of-holders : goal.shape_of-holders
shape_of-holders c = (c.loop-i.invariant _ c.requires.represents_some.stands).underway.holders_size

pub returns : goal.returns
returns c t s = way_end _ c.args.hints.now _ _ _ _ _ (c.loop-i.invariant t s) c.loop-i-test.false
