-- `store_row` meets its contract: the words are filled one after the other. Assumes nothing.
use Rattle.machine.specs.Word.{word}
use Rattle.rights_matrix_theory.specs.Rows.{held_in}
use Rattle.rights_matrix.proofs.Filling.{Filling}
use Rattle.rights_matrix.proofs.RightsMatrix.store_row.Given as goal

abbrev pub invariant-loop-g : goal.invariant-loop-g
invariant-loop-g l = Filling 0 (λ j. word 2 (held_in l.self l.holder j)) l.initial.words l.words l.g
