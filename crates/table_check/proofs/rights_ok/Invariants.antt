-- Rights alone are gathered where the words passed are valid.
use lib.Dec.{leb}
use lib.ListN.{get_or, length}
use Rattle.machine.specs.Right.{all_rights}
use Rattle.machine.specs.Check.{rights_word_ok}
use Rattle.table_words.proofs.Scan.{Scanned}
use Rattle.table_check.proofs.rights_ok.Given as goal

abbrev pub invariant-loop-word : goal.invariant-loop-word
invariant-loop-word l = Scanned (λ j. rights_word_ok (get_or l.words j 0)) (length l.words) (leb l.wrong all_rights) l.word-index
