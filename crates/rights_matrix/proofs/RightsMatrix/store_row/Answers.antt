-- `store_row` meets its contract: the words are filled one after the other. Assumes nothing.
use Rattle.std.proofs.Common.{arith}
use Rattle.rights_matrix.proofs.Filling.{filling-start, filling-next, words-filled}
use Rattle.rights_matrix.proofs.RowWords.{row-place}
use Rattle.rights_matrix.proofs.RightsMatrix.store_row.Goals as goal

pub loop-g-init : goal.loop-g-init
loop-g-init c = filling-start 0 _ _

pub loop-g-preserved : goal.loop-g-preserved
loop-g-preserved c =
    filling-next 0 _ _ _ _ _ c.loop-g.invariant (omega arith)
    (row-place _ _ _ c.from.result (omega arith) (cc))

pub returns : goal.returns
returns c = words-filled _ _ _ _ c.loop-g.invariant (omega arith)
