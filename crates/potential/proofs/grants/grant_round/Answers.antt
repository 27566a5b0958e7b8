-- `grants::grant_round` meets its contract: one domain that acts after the other. Assumes nothing.
use mathlib.Core.Path.{◌≡◌, refl, ap, ◌∙◌}
use native.Mathlib.Omega.{arith}
use Rattle.potential_theory.specs.Closure.{steps_below, granted_by, round}
use Rattle.potential.proofs.Cells.{by-done, by-not-done}
use Rattle.potential.proofs.Loops.{one-step}
use Rattle.potential.proofs.grants.grant_round.Goals as goal
use Rattle.potential.proofs.grants.grant_round.Goals.{then-actors-giver-eq1, else-actors-giver-eq1}

pub loop-giver-init : goal.loop-giver-init
unfolding steps_below
loop-giver-init c = refl

pub loop-giver-preserved : goal.loop-giver-preserved
loop-giver-preserved c =
    let made = c.loop-giver.invariant in
    elim c.if-actors-giver-eq1.branch [
      | then-actors-giver-eq1 w ↦
          w.rights-is ∙ one-step _ _ _ _ _ made (by-done _ _ _ _ _ w.if-actors-giver-eq1.true w.grant_each.ensures)
      | else-actors-giver-eq1 w ↦ w.rights-is ∙ one-step _ _ _ _ _ made (by-not-done _ _ _ _ w.if-actors-giver-eq1.false)
    ]

pub returns : goal.returns
unfolding round
returns c =
    let all : c.loop-giver.giver ≡ c.args.n = omega arith in
    c.loop-giver.invariant ∙ ap (λ k. steps_below k (granted_by c.args.n c.args.actors) c.args.rights.now) all
