-- A name found by its hint, or without it. Assumes nothing.
use mathlib.Core.Path.{◌≡◌, sym, ap, ◌∙◌}
use mathlib.Core.Bool.{Bool, true, false, cond, ◌&&◌}
use mathlib.Core.List.{List}
use mathlib.Core.Option.{Option, some}
use Prim.Native.Nat.{ℕ, ◌%◌, ◌<◌, ◌≤◌}
use native.Mathlib.Omega.{arith}
use lib.Dec.{eqb, ltb}
use lib.ListN.{get_or}
use Rattle.std.specs.Prelude as std
use Rattle.machine.specs.Below.{first_below}
use Rattle.working_theory.proofs.Reading.{none_before, first-is}
use Rattle.rules.specs.Access.{found_of}
use Rattle.working_theory.specs.State.{hint_place, named_in}

module _ (m : ℕ) (names hints : List ℕ) (x e : ℕ) (b : Bool) (is : e ≡ get_or hints (hint_place x) 0) (test : b ≡ (ltb e m && eqb (get_or names (e % 32) 0) x)) where
  h : ℕ
  h = get_or hints (hint_place x) 0

  reported : (ltb h m && eqb (get_or names (h % 32) 0) x) ≡ b
  unfolding h
  reported = sym (test ∙ ap (λ (z : ℕ). ltb z m && eqb (get_or names (z % 32) 0) x) is)

  chosen : Bool → Option ℕ
  chosen c = cond c (some h) (first_below m (λ i. eqb (get_or names (i % 32) 0) x))

  pub by-hint : b ≡ true → some e ≡ named_in m names hints x
  unfolding named_in h chosen
  by-hint it = ap some is ∙ sym (ap chosen (reported ∙ it))

  pub by-search : b ≡ false → first_below m (λ i. eqb (get_or names (i % 32) 0) x) ≡ named_in m names hints x
  unfolding named_in h chosen
  by-search it = sym (ap chosen (reported ∙ it))

-- the first index below m that passes a test, as `find` says of it over a range
pub first-found :
    (m : ℕ) (p : ℕ → Bool) (r : std.Option ℕ)
    → std.MatchOption r ((k : ℕ) → 0 ≤ k → k < m → p k ≡ false) (λ i. (0 ≤ i) × (i < m) × (p i ≡ true) × ((k : ℕ) → 0 ≤ k → k < i → p k ≡ false))
    → found_of r ≡ first_below m p
unfolding found_of
first-found m p std.None nowhere = sym (none_before m p (λ i l. nowhere i (omega arith) l))
first-found m p (std.Some e) (_, l, is, before) = sym (first-is m p e l is (λ i b. before i (omega arith) b))
