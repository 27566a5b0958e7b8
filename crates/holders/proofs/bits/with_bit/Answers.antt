-- `bits::with_bit` meets its contract: the bit is set, or what is taken away is a part of the word. Assumes nothing.
use lib.Bits.{and_le_l}
use Rattle.reachability.proofs.Bits.{bit_is}
use Rattle.holders_theory.proofs.OneBit.{made-set, made-cleared}
use Rattle.holders.proofs.bits.with_bit.Goals as goal

pub returns-then-set : goal.returns-then-set
returns-then-set c = made-set _ _ _ _ (bit_is c.requires c.bit-one.ensures) c.if-set.true

pub overflow_sub-result : goal.overflow_sub-result
overflow_sub-result c = and_le_l _ _

pub returns-else-set : goal.returns-else-set
returns-else-set c = made-cleared _ _ _ _ (bit_is c.requires c.bit-one.ensures) c.if-set.false
