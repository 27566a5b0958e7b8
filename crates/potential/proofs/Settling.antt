-- Rounds until one adds nothing: the loop's invariant, and that it ends (specs/Closure of crate potential_theory: settled).
-- Assumes nothing.
use mathlib.Core.Path.{◌≡◌, refl, sym, ap, ◌∙◌}
use mathlib.Core.List.{List}
use Prim.Native.Nat.{ℕ, zero, suc, ◌+◌, ◌*◌, ◌-◌, ◌^◌, ◌<◌, ◌≤◌}
use native.Mathlib.Nat.{mul-le-mul}
use native.Mathlib.Omega.{arith}
use borrow.Author.Tests.{lt-ltb, le-ltb}
use Rattle.machine.specs.Right.{all_rights}
use Rattle.potential_theory.specs.Closure.{Proper, round, total, settled, enough}
use Rattle.potential_theory.specs.Lists.{round_calls}
use Rattle.potential_theory.proofs.Matrix.{proper-most}
use Rattle.potential_theory.proofs.Steps.{Step}
use Rattle.potential_theory.proofs.Granted.{Within}
use Rattle.potential_theory.proofs.Closure.{round-step}
use Rattle.std.specs.List.{sum}
use Rattle.potential.proofs.Loops.{sum-total}

-- a round on any rights whatsoever
Any : ℕ → ℕ → ℕ → Type 0
Any h g k = Unit {0}

module _ (n s : ℕ) where
  any_step : Step n s (Within n Any) (Within n Any) (round n s) (round_calls n s)
  unfolding Any
  any_step = round-step n s Any (λ _ _ _ _ _ _ _ _ _. tt)

  within : (m : List ℕ) → Proper n m → Within n Any m
  unfolding Any
  within m p = record { proper = p; only = λ _ _ _ _ _ _. tt }

-- the sum of a matrix of sixteen domains or less fits a word
pub sum_fits : (n : ℕ) (m : List ℕ) → Proper n m → n ≤ 16 → sum m < 2 ^ 32
sum_fits n m p few =
    let cells : n * n ≤ 16 * 16 = mul-le-mul few few in
    omega (arith, sum-total m, proper-most n m p)

-- ---- the first of suc k rounds

settled-still : (k n s : ℕ) (m : List ℕ) → total (round n s m) ≤ total m → settled (suc k) n s m ≡ m
unfolding settled
settled-still k n s m l = rw (le-ltb (total m) (total (round n s m)) l)

settled-more : (k n s : ℕ) (m : List ℕ) → total m < total (round n s m) → settled (suc k) n s m ≡ settled k n s (round n s m)
unfolding settled
settled-more k n s m l = rw (lt-ltb (total m) (total (round n s m)) l)

-- ---- the loop: last is the sum of the matrix m, and k rounds more at the most make of m what is to be made of m₀
pub record Settling (n s : ℕ) (m₀ m : List ℕ) (last : ℕ) : Type 0 where
  pub proper : Proper n m
  pub counted : last ≡ total m
  pub left : (k : ℕ) × (n * n * all_rights < k + total m) × (settled k n s m ≡ settled (enough n) n s m₀)

pub settling-start : (n s : ℕ) (m : List ℕ) (last : ℕ) → Proper n m → last ≡ total m → Settling n s m m last
settling-start n s m last p e = record { proper = p; counted = e; left = (enough n, omega arith, refl) }

-- one round more
module _ (n s : ℕ) (m₀ m : List ℕ) (last : ℕ) (x : Settling n s m₀ m last) (m' : List ℕ) (e : m' ≡ round n s m) where
  pub round-proper : Proper n m'
  round-proper = rw e ((any_step n s).keeps m (within n s m x.proper)).proper

  grows : total m ≤ total m'
  grows = rw e (omega (arith, (any_step n s).grows m (within n s m x.proper)))

  module _ (next : ℕ) (counts : next ≡ total m') where
    -- that adds nothing: it leaves the matrix as it must be
    pub settling-end : next ≡ last → m' ≡ settled (enough n) n s m₀
    settling-end same =
        let less : total (round n s m) ≤ total m = omega (arith, ap total e, x.counted) in
        e ∙ (any_step n s).still m (within n s m x.proper) less ∙ go x.left.0 x.left.1 less ∙ x.left.2
      where
        go : (k : ℕ) → n * n * all_rights < k + total m → total (round n s m) ≤ total m → m ≡ settled k n s m
        go zero l less = absurd (omega (arith, proper-most n m x.proper))
        go (suc k) l less = sym (settled-still k n s m less)

    module _ (other : next ≡ last → ⊥) where
      more : total m < total m'
      more = omega (arith, grows, x.counted)

      -- that adds something: there is less room than before
      pub settling-less : n * n * all_rights - total m' < n * n * all_rights - total m
      settling-less = omega (arith, more, proper-most n m' round-proper)

      pub settling-next : Settling n s m₀ m' next
      settling-next = record { proper = round-proper; counted = counts; left = go x.left.0 x.left.1 x.left.2 }
        where
          go :
              (k : ℕ)
              → n * n * all_rights < k + total m
              → settled k n s m ≡ settled (enough n) n s m₀
              → (k : ℕ) × (n * n * all_rights < k + total m') × (settled k n s m' ≡ settled (enough n) n s m₀)
          go zero l same = absurd (omega (arith, proper-most n m x.proper))
          go (suc k) l same =
              (k, omega (arith, more), ap (settled k n s) e ∙ sym (settled-more k n s m (omega (arith, more, ap total e))) ∙ same)
