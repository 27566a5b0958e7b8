-- `store` meets its contract: the rows are stored one after the other. Assumes nothing.
use Rattle.std.proofs.Common.{length}
use Rattle.rights_matrix.proofs.LoadLoop.{HasRights}
use Rattle.rights_matrix.proofs.StoreLoop.{Out}
use Rattle.rights_matrix.proofs.RightsMatrix.store.Given as goal

abbrev pub invariant-loop-h : goal.invariant-loop-h
invariant-loop-h l = Out l.n l.self l.initial.table l.table l.h × HasRights l.n (length l.initial.table)
