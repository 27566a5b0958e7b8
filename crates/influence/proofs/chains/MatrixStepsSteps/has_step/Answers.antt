-- `has_step` meets its trait's contract: a word has no bit from the 32nd on, so that none acts there. Assumes nothing.
use mathlib.Core.Path.{◌≡◌, refl, ◌∙◌}
use Prim.Native.Nat.{◌/◌, ◌^◌}
use native.Mathlib.Nat.{div-eq_of_lt, lt_of_lt_of_le}
use native.Mathlib.Omega.{arith}
use borrow.Author.Tests.{le-ltb}
use lib.Pow.{pow_mono}
use Rattle.machine.specs.Below.{has_bit}
use Rattle.influence.specs.Reported.{reaches_in}
use Rattle.influence.proofs.chains.MatrixStepsSteps.has_step.Goals as goal

pub returns-else-u-lt32 : goal.returns-else-u-lt32
unfolding reaches_in has_bit
returns-else-u-lt32 c =
    let past = c.if-u-lt32.false in
    let none : c.args.self.now.actors / 2 ^ c.args.u ≡ 0 = div-eq_of_lt (lt_of_lt_of_le (omega (arith, c.type_inv.self.1)) (pow_mono {i = 32} past)) in
    le-ltb c.args.u 32 past ∙ rw none refl
