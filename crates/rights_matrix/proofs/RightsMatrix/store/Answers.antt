-- `store` meets its contract: the rows are stored one after the other. Assumes nothing.
use Rattle.std.proofs.Common.{sym, ◌∙◌, arith}
use Rattle.rights_matrix.proofs.StoreLoop.{out-row, out-end, out-all}
use Rattle.rights_matrix.proofs.RightsMatrix.store.Goals as goal

pub loop-h-preserved : goal.loop-h-preserved
loop-h-preserved c =
    let inv = c.loop-h.invariant in
    (out-row _ _ _ _ _ inv.0 inv.1 c.loop-h-test.true _ c.rights_at-from.ensures _ c.store_row.ensures, inv.1)

pub returns : goal.returns
returns c =
    out-all _ _ _ _ (sym c.has_rights.ensures ∙ c.if-not-has_rights.false)
    (out-end _ _ _ _ _ c.loop-h.invariant.0 (omega arith))
