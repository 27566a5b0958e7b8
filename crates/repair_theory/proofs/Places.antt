-- Every place of a table of n domains and m endpoints is that of word 0, of a rights word, or of an endpoint's word.
-- Assumes nothing.
use Prim.Native.Nat.{ℕ, zero, suc, ◌+◌, ◌*◌, ◌-◌, ◌/◌, ◌%◌, ◌<◌}
use mathlib.Core.Path.{◌≡◌, subst}
use native.Mathlib.Decide.{dec_lt}
use native.Mathlib.Omega.{arith}
use Rattle.machine.specs.Table.{length_for, endpoint_at}

pub place-elim : (n m : ℕ) (P : ℕ → Type 0)
    → P 0
    → ((i : ℕ) → i < n * n → P (1 + i))
    → ((e k : ℕ) → e < m → k < 12 → P (endpoint_at n e + k))
    → (i : ℕ)
    → i < length_for n m
    → P i
place-elim n m P first rights endpoints zero l = first
place-elim n m P first rights endpoints (suc i) l = go (dec_lt i (n * n))
  where
    go : Dec (i < n * n) → P (suc i)
    go (yes b) = let at : 1 + i ≡ suc i = omega arith in subst P at (rights i b)
    go (no b) =
        let j : ℕ = i - n * n in
        let at : endpoint_at n (j / 12) + j % 12 ≡ suc i = omega arith in
        subst P at (endpoints (j / 12) (j % 12) (omega arith) (omega arith))
