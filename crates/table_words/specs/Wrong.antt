-- The bits that are wrong in a table word, as the loops of the check gather them (document 01, 'The table').
use Rattle.std.specs.Prelude.{ℕ, ◌-◌, cond, ltb}
use Rattle.std.specs.Int.Bits.{bit_and, bit_xor}
use Rattle.machine.specs.Word.{word}
use Rattle.machine.specs.Queue.{empty_slot}

-- the bits in which a rights word differs from one that has no right; in a valid word these are rights
unfoldable pub rights_wrong : ℕ → ℕ
rights_wrong w = bit_xor w (word 2 0)

-- the bits of slot i that must be those of an empty one, by its endpoint's waiting word: those of the kind where a message waits in
-- it, else all
unfoldable pub slot_asked : ℕ → ℕ → ℕ
slot_asked waiting i = cond (ltb i (waiting - word 5 0)) 0xF000_0000 0xFFFF_FFFF

-- the bits among these in which it differs from an empty one; a valid slot has none
unfoldable pub slot_wrong : ℕ → ℕ → ℕ → ℕ
slot_wrong waiting i w = bit_and (bit_xor w empty_slot) (slot_asked waiting i)
