-- `steps::step_word` meets its contract: of the domains tested, the set has those that have a step. Assumes nothing.
use Rattle.std.proofs.Common.{◌≡◌, refl, arith, ap, ap₂, ◌∙◌}
use lib.Bits.{bit_or}
use Rattle.machine.specs.Below.{sum_below, bits_below}
use Rattle.reachability.proofs.Bits.{bit_is}
use Rattle.reachability.proofs.Words.{bits-with, bits-without}
use Rattle.reachability.proofs.steps.step_word.Goals as goal
use Rattle.reachability.proofs.steps.step_word.Goals.{then-has_step, else-has_step}

pub loop-u-init : goal.loop-u-init
unfolding bits_below sum_below
loop-u-init g c = refl

pub loop-u-preserved : goal.loop-u-preserved
loop-u-preserved g c =
    elim c.if-has_step.branch [
      | then-has_step w ↦
          w.bits-is
          ∙ ap₂ bit_or c.loop-u.invariant (bit_is (omega arith) w.bit-bits.ensures)
          ∙ bits-with _ _ w.if-has_step.ensures
      | else-has_step w ↦ w.bits-is ∙ c.loop-u.invariant ∙ bits-without _ _ w.if-has_step.ensures
    ]

pub returns : goal.returns
returns g c =
    let all : c.loop-u.u ≡ c.args.n = omega arith in
    c.loop-u.invariant ∙ ap (λ k. bits_below k (λ u. g.S.Steps.has c.args.steps.now u c.args.v)) all
