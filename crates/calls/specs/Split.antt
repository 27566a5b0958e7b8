-- The call that begins at an index of a list: its second word, if it has one, and how many words it has
-- (document 01, 'The calls': how a list is split).
use Rattle.std.specs.Prelude.{ℕ, Option, Some, None, ◌+◌, cond, ◌&&◌, List, length, get_or, ltb}
use Rattle.machine.specs.Call as machine
use Rattle.machine.specs.Call.{pairs}

-- the machine's call of a first word and, if there is one, a second
abbrev pub call_of : ℕ → Option ℕ → machine.Call
call_of w None = machine.one w
call_of w (Some v) = machine.two w v

-- the word after the one at index i, where the two make one call
unfoldable pub second_at : List ℕ → ℕ → Option ℕ
second_at ws i =
    cond (ltb (i + 1) (length ws) && pairs (get_or ws i 0) (get_or ws (i + 1) 0)) (Some (get_or ws (i + 1) 0)) None

-- how many words a call has
abbrev pub width_of : Option ℕ → ℕ
width_of None = 1
width_of (Some v) = 2
