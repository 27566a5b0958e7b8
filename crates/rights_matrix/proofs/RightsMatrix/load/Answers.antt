-- `load` meets its contract: the rows are filled one after the other. Assumes nothing.
use Rattle.std.proofs.Common.{sym, ◌∙◌, arith}
use Rattle.rights_matrix.proofs.LoadLoop.{rows-filled, taken_none, taken-all}
use Rattle.rights_matrix.proofs.RightsMatrix.load.Goals as goal
use Rattle.rights_matrix.proofs.RightsMatrix.load.Goals.{then-has_rights+else-loop-h-test, else-has_rights}

pub returns : goal.returns
returns c = elim c.if-has_rights.branch [
  | then-has_rights+else-loop-h-test w ↦
      rw w.rows-is
      (let inv = w.loop-h.invariant in
      taken-all _ c.args.table.now _ (sym c.has_rights.ensures ∙ w.if-has_rights.true)
      (rows-filled _ _ _ _ inv.1.few inv.0 (omega arith)))
  | else-has_rights w ↦ rw w.rows-is (taken_none _ c.args.table.now (sym c.has_rights.ensures ∙ w.if-has_rights.false))
]
