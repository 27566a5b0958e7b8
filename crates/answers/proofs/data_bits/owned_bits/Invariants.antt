-- `data_bits::owned_bits` meets its contract. The loop's invariant: the bits from e on are found, as far as they are kept, and
-- those below e are still to be found. Assumes nothing.
use Rattle.machine.specs.Machine.{owned_bits}
use Rattle.answers.proofs.Digits.{Kept}
use Rattle.answers.proofs.AnswerWords.{owns_at}
use Rattle.answers.proofs.data_bits.owned_bits.Given as goal

abbrev pub invariant-loop-e : goal.invariant-loop-e
invariant-loop-e l = Kept 2 (owns_at l.table l.caller) l.e l.bits (owned_bits l.table l.caller)
