-- `grants::grant_each` meets its contract: one recipient after the other. Assumes nothing.
use mathlib.Core.Path.{refl, sym, ◌∙◌}
use Rattle.potential_theory.specs.Closure.{steps_below}
use Rattle.potential.proofs.Cells.{to-done, to-not-done}
use Rattle.potential.proofs.Loops.{one-step}
use Rattle.potential.proofs.grants.grant_each.Goals as goal
use Rattle.potential.proofs.grants.grant_each.Goals.{then-has_any, else-has_any}

pub loop-recipient-init : goal.loop-recipient-init
unfolding steps_below
loop-recipient-init c = refl

pub loop-recipient-preserved : goal.loop-recipient-preserved
loop-recipient-preserved c =
    let made = c.loop-recipient.invariant in
    elim c.if-has_any.branch [
      | then-has_any w ↦
          w.rights-is
          ∙ one-step _ _ _ _ _ made (to-done _ _ _ _ _ _ c.cell_at.ensures refl _ (sym c.has_any.ensures ∙ w.if-has_any.true) w.grant_all.ensures)
      | else-has_any w ↦
          w.rights-is
          ∙ one-step _ _ _ _ _ made (to-not-done _ _ _ _ _ _ c.cell_at.ensures refl (sym c.has_any.ensures ∙ w.if-has_any.false))
    ]
