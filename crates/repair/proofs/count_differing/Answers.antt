use Rattle.std.proofs.Common.{refl, arith, ap, ◌∙◌, length}
use Rattle.machine.specs.Below.{numbers_below}
use Rattle.repair_theory.specs.Changes.{differing}
use Rattle.repair_theory.proofs.Changes.{differs_at}
use Rattle.repair.proofs.Passes.{counted_next}
use Rattle.repair.proofs.count_differing.Goals as goal

pub loop-i-init : goal.loop-i-init
unfolding numbers_below
loop-i-init c = (omega arith, refl)

pub loop-i-preserved : goal.loop-i-preserved
loop-i-preserved c =
    let next = counted_next c.args.old.now c.args.new.now c.loop-i.i c.loop-i.invariant.1 c.from-count.ensures in
    (omega (arith, next.0, c.loop-i.invariant.0), next.1)

pub returns : goal.returns
unfolding differing
returns c =
    c.loop-i.invariant.1
    ∙ ap (λ k. length (numbers_below k (differs_at c.args.old.now c.args.new.now))) (omega (arith, c.loop-i.auto.i-end, c.loop-i-test.false))
