-- Each iteration joins a word where its domain is a member.
use Rattle.reachability.proofs.Loops.{widening-start, widening-member, widening-other, widening-end}
use Rattle.reachability.proofs.widen.Goals as goal
use Rattle.reachability.proofs.widen.Goals.{then-members-eq1, else-members-eq1}

pub loop-word-init : goal.loop-word-init
loop-word-init c = widening-start _ _

pub loop-word-preserved : goal.loop-word-preserved
loop-word-preserved c =
    let inv = c.loop-word.invariant in
    let within = c.loop-word-test.true in
    elim c.if-members-eq1.branch [
      | then-members-eq1 w ↦ rw w.wide-is (widening-member _ _ _ _ _ inv within w.if-members-eq1.true)
      | else-members-eq1 w ↦ rw w.wide-is (widening-other _ _ _ _ _ inv within w.if-members-eq1.false)
    ]

pub returns : goal.returns
returns c = widening-end _ _ _ _ _ c.loop-word.invariant c.loop-word-test.false
