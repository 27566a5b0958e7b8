-- `load` meets its contract: the rows are filled one after the other. Assumes nothing.
use Rattle.std.proofs.Common.{[], length}
use Rattle.rights_matrix.proofs.Filling.{Filling}
use Rattle.rights_matrix.proofs.LoadLoop.{HasRights, row_at}
use Rattle.rights_matrix.proofs.RightsMatrix.load.Given as goal

abbrev pub invariant-loop-h : goal.invariant-loop-h
invariant-loop-h l = Filling [] (row_at l.n l.table) l.initial.rows l.rows l.h × HasRights l.n (length l.table)
