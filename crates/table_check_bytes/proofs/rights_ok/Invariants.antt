-- Rights alone are gathered where the words passed are valid.
use Prim.Native.Nat.{◌+◌, ◌*◌, ◌≤◌}
use lib.Dec.{leb}
use lib.ListN.{get_or, length}
use Rattle.machine.specs.Right.{all_rights}
use Rattle.machine.specs.Check.{rights_word_ok}
use Rattle.table_words.proofs.Scan.{Scanned}
use Rattle.input_words.specs.Bytes.{words_of}
use Rattle.table_check_bytes.proofs.rights_ok.Given as goal

abbrev pub invariant-loop-i : goal.invariant-loop-i
invariant-loop-i l =
    Scanned (λ j. rights_word_ok (get_or (words_of l.bytes) (1 + j) 0)) l.i-end (leb l.wrong all_rights) l.i × (4 * (1 + l.i-end) ≤ length l.bytes)
