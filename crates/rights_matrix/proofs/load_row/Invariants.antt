-- `load_row` meets its contract: the places are filled one after the other. Assumes nothing.
use Rattle.std.proofs.Common.{◌%◌, get_or}
use Rattle.rights_matrix.proofs.Filling.{Filling}
use Rattle.rights_matrix.proofs.load_row.Given as goal

abbrev pub invariant-loop-g : goal.invariant-loop-g
invariant-loop-g l = Filling 0 (λ j. get_or l.words j 0 % 256) l.initial.row l.row l.g
