-- `rows::fill_rows` meets its contract: one row after the other. Assumes nothing.
use mathlib.Core.Path.{◌∙◌, ap, sym, subst}
use lib.ListN.{replicate}
use Rattle.holders.proofs.Filled.{Gathered, gathered-start, gathered_next, gathered-end}
use Rattle.holders.proofs.rows.fill_rows.Goals as goal

pub loop-h-init : goal.loop-h-init
loop-h-init c =
    subst (λ ps. Gathered c.args.table.now c.args.n ps 0)
    (sym (c.fill.ensures.after (λ y e. e) ∙ ap (λ k. replicate k 0) c.requires.fit.words))
    (gathered-start _ _)

pub loop-h-preserved : goal.loop-h-preserved
loop-h-preserved c =
    gathered_next _ _ _ _ c.loop-h.invariant c.requires.domains _ c.loop-h-test.true c.add_row.ensures

pub returns : goal.returns
returns c = gathered-end _ _ _ _ c.loop-h.invariant c.requires.domains c.loop-h-test.false
