-- A call's second word as the bench passes it.
use Rattle.std.specs.Prelude.{ℕ, Option, Some, None, cond, eqb}

-- a second word of C: the word v, or nothing where `has` is 0
abbrev pub second_given : ℕ → ℕ → Option ℕ
second_given v has = cond (eqb has 0) None (Some v)
