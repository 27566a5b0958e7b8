-- No bit is gathered where the slots passed are valid.
use Prim.Native.Nat.{◌+◌, ◌-◌}
use lib.Dec.{eqb}
use lib.ListN.{get_or}
use Rattle.machine.specs.Word.{word}
use Rattle.machine.specs.Check.{slot_word_ok}
use Rattle.table_words.proofs.Scan.{Scanned}
use Rattle.table_words.proofs.endpoint.slots_ok.Given as goal

abbrev pub invariant-loop-i : goal.invariant-loop-i
invariant-loop-i l = Scanned (λ j. slot_word_ok (l.waiting - word 5 0) j (get_or l.q (4 + j) 0)) 8 (eqb l.wrong 0) l.i
