-- `split::count` meets its contract. The invariant says what remains (proofs/Counted).
-- Assumes nothing.
use native.Mathlib.Omega.{arith}
use borrow.Author.Rules.{rules}
use lib.ListN.{get_or}
use Rattle.machine.specs.Call.{pairs}
use Rattle.calls.proofs.Counted.{counted_next, counted_all, one_at_most}
use Rattle.calls.proofs.split.count.Goals as goal

pub loop-word-preserved : goal.loop-word-preserved
loop-word-preserved c =
    let list = c.args.list.now in
    let l = c.loop-word in
    let most = one_at_most (pairs l.before (get_or list l.word-index 0)) in
    let next = counted_next list l.calls l.before l.word-index (search rules) l.invariant.1 in
    (omega (arith, c.begun-calls.ensures), rw c.begun-calls.ensures next)

pub returns : goal.returns
returns c = counted_all c.args.list.now c.loop-word.calls c.loop-word.before c.loop-word.word-index (search rules) c.loop-word.invariant.1
