-- The cells of a matrix by their places, and the closure's steps as the functions make them (specs/Closure of crate
-- potential_theory). Assumes nothing.
use mathlib.Core.Path.{◌≡◌}
use mathlib.Core.Bool.{true, false}
use mathlib.Core.List.{List}
use Prim.Native.Nat.{ℕ, ◌*◌, ◌/◌, ◌%◌, ◌^◌, ◌<◌}
use native.Mathlib.Omega.{arith}
use borrow.Author.Tests.{eq-eqb, ne_eqb}
use lib.Arith.{digits_lt}
use lib.ListN.{get_or, set}
use Rattle.machine.specs.Below.{has_bit}
use Rattle.machine.specs.Right.{GRANT, holds, adds, has_any}
use Rattle.potential_theory.specs.Closure.{cell_at, cell, steps_below, granted_on, granted_to, granted_by}

-- ---- where a cell is

-- in a matrix of k words
pub at-below : (k n h g at : ℕ) → k ≡ n * n → h < n → g < n → at ≡ cell_at n h g → at < k
at-below k n h g at size lh lg e = omega (arith, digits_lt lh lg)

-- ---- one grant

module _ (m : List ℕ) (n u h g from own : ℕ) (e : from ≡ cell_at n u g) (is : own ≡ get_or m from 0) where
  pub grant-done :
      (to had has : ℕ)
      → to ≡ cell_at n h g
      → had ≡ get_or m to 0
      → has ≡ adds had own
      → holds own GRANT ≡ true
      → set m to has ≡ granted_on n u h g m
  unfolding granted_on cell
  grant-done to had has e' was sum may = rw (← e, ← is, may, ← e', ← was, ← sum)

  pub grant-not-done : holds own GRANT ≡ false → m ≡ granted_on n u h g m
  unfolding granted_on cell
  grant-not-done may = rw (← e, ← is, may)

-- ---- all grants to one holder: tested by the rights on it

module _ (m : List ℕ) (n u h at held : ℕ) (e : at ≡ cell_at n u h) (is : held ≡ get_or m at 0) where
  pub to-done : (m' : List ℕ) → has_any held ≡ true → m' ≡ steps_below n (granted_on n u h) m → m' ≡ granted_to n u h m
  unfolding granted_to cell
  to-done m' some made = rw (← e, ← is, some) made

  pub to-not-done : has_any held ≡ false → m ≡ granted_to n u h m
  unfolding granted_to cell
  to-not-done none = rw (← e, ← is, none)

-- ---- all grants by one domain: tested by its bit

module _ (m : List ℕ) (n s u : ℕ) where
  pub by-done : (m' : List ℕ) → s / 2 ^ u % 2 ≡ 1 → m' ≡ steps_below n (granted_to n u) m → m' ≡ granted_by n s u m
  unfolding granted_by has_bit
  by-done m' acts made = rw (eq-eqb (s / 2 ^ u % 2) 1 acts) made

  pub by-not-done : (s / 2 ^ u % 2 ≡ 1 → ⊥) → m ≡ granted_by n s u m
  unfolding granted_by has_bit
  by-not-done not = rw (ne_eqb (s / 2 ^ u % 2) 1 not)
