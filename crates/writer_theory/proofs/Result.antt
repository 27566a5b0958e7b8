-- The result in one number (specs/Result): its rows, that two results that say the same are the same, and which result says
-- which outcome. Assumes nothing.
use Prim.Native.Nat.{ℕ, ◌+◌, ◌≤◌}
use mathlib.Core.Path.{◌≡◌, refl}
use native.Mathlib.Omega.{arith}
use borrow.Author.Tests.{le-leb, lt-leb, ne_eqb}
use Rattle.writer_theory.specs.Result.{result_code, result_number, EveryResult}

pub every-result : EveryResult
unfolding result_code result_number
every-result = (refl, refl)

-- so many words are written
pub written-result : (n : ℕ) → n ≤ 4096 → (result_code n ≡ 0) × (result_number n ≡ n)
unfolding result_code result_number
written-result n h = (rw (le-leb n 4096 h), rw (le-leb n 4096 h))

-- the words are too many
pub long-result : (result_code 4097 ≡ 31) × (result_number 4097 ≡ 0)
unfolding result_code result_number
long-result = (refl, refl)

-- the call of an index is bad
pub bad-result : (k : ℕ) → (result_code (4098 + k) ≡ 30) × (result_number (4098 + k) ≡ k)
unfolding result_code result_number
bad-result k =
    let past = lt-leb (4098 + k) 4096 (omega arith) in
    let other = ne_eqb (4098 + k) 4097 (λ e. omega arith) in
    (rw (past, other), rw (past, other) (omega arith))
