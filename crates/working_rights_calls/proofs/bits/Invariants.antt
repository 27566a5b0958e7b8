-- The loop's invariant: the rights on the targets from the current one on are collected, as far as they are kept.
use Rattle.std.proofs.Common.{ℕ, ◌+◌, List}
use Rattle.rights_matrix.specs.Rows.{held_in}
use Rattle.answers.proofs.Digits.{digit_sum, Kept}
use Rattle.working_rights_calls.proofs.bits.Given as goal

-- the rights on the i-th target
abbrev pub on_target : List (List ℕ) → ℕ → ℕ → ℕ → ℕ
on_target rows u g i = held_in rows u (g + i)

abbrev pub invariant-loop-i : goal.invariant-loop-i
invariant-loop-i l = Kept 16 (on_target l.rows l.holder l.from) l.i l.bits (digit_sum 16 (on_target l.rows l.holder l.from) 8)
