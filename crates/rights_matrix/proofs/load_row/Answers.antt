-- `load_row` meets its contract: the places are filled one after the other. Assumes nothing.
use Rattle.std.proofs.Common.{refl, arith}
use Rattle.rights_matrix.proofs.Filling.{filling-start, filling-next}
use Rattle.rights_matrix.proofs.RowWords.{row-filled}
use Rattle.rights_matrix.proofs.load_row.Goals as goal

pub loop-g-init : goal.loop-g-init
loop-g-init c = filling-start 0 _ _

pub loop-g-preserved : goal.loop-g-preserved
loop-g-preserved c = filling-next 0 _ _ _ _ _ c.loop-g.invariant (omega arith) refl

pub returns : goal.returns
returns c = row-filled _ _ _ c.loop-g.invariant c.loop-g-test.false
