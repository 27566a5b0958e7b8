-- `fill` meets its contract: the holders are computed where they can be. Assumes nothing.
use mathlib.Core.Path.{sym, ◌∙◌}
use Rattle.holders_theory.proofs.Filled.{filled-done, filled-stays}
use Rattle.holders.proofs.Filled.{has_room}
use Rattle.holders.proofs.fill.Goals as goal

pub fill_rows-requires : goal.fill_rows-requires
fill_rows-requires c =
    record {
      fit = has_room _ _ _ (sym c.fillable.ensures ∙ c.if-fillable.true);
      domains = c.domains-n.ensures;
    }

pub returns-then-fillable : goal.returns-then-fillable
returns-then-fillable c =
    c.fill_rows.ensures
    ∙ filled-done _ _ _ c.domains-n.ensures (sym c.fillable.ensures ∙ c.if-fillable.true)

pub returns-else-fillable : goal.returns-else-fillable
returns-else-fillable c =
    filled-stays _ _ _ c.domains-n.ensures (sym c.fillable.ensures ∙ c.if-fillable.false)
