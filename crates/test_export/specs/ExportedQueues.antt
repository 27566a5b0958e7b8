-- The code that C gets of a send or a receive.
use Rattle.std.specs.Prelude.{ℕ, Bool, cond}

-- 1 where it was done, and 0 where the words stayed as they were
abbrev pub done_code : Bool → ℕ
done_code done = cond done 1 0
