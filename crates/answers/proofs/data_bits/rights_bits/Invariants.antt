-- `data_bits::rights_bits` meets its contract. The loop's invariant: the rights on the targets from the present one on are found,
-- as far as they are kept, and those below are still to be found. Assumes nothing.
use Prim.Native.Nat.{◌-◌}
use Rattle.machine.specs.Machine.{rights_bits}
use Rattle.answers.proofs.Digits.{Kept}
use Rattle.answers.proofs.AnswerWords.{rights_on}
use Rattle.answers.proofs.data_bits.rights_bits.Given as goal

abbrev pub invariant-loop-target : goal.invariant-loop-target
invariant-loop-target l =
    Kept 16 (rights_on l.table l.caller l.low) (l.target - l.low) l.bits (rights_bits l.table l.caller l.low)
