-- `steps::step_word` meets its contract: of the domains tested, the set has those that have a step. Assumes nothing.
use Rattle.std.proofs.Common.{◌≡◌}
use Rattle.machine.specs.Below.{bits_below}
use Rattle.reachability.proofs.steps.step_word.Given as goal

abbrev pub invariant-loop-u : goal.invariant-loop-u
invariant-loop-u g l = l.bits ≡ bits_below l.u (λ u. g.S.Steps.has l.steps u l.v)
