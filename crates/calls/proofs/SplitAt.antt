-- A list is split at the index of a call into that call and the words after it (specs/Split).
-- Assumes nothing.
use mathlib.Core.Path.{◌≡◌, refl, sym, ap, ◌∙◌}
use mathlib.Core.Bool.{Bool, true, false, cond, ◌&&◌}
use mathlib.Core.List.{List, [], ◌∷◌}
use Prim.Native.Nat.{ℕ, suc, ◌+◌, ◌<◌, ◌≤◌}
use native.Mathlib.Numerals.{add-one}
use native.Mathlib.Omega.{arith}
use borrow.Author.Tests.{ltb-true, ltb-false}
use lib.Dec.{ltb}
use lib.ListN.{length, get_or, drop, drop_of_length-le}
use lib.Seq.{drop-cons}
use Rattle.std.specs.Prelude.{Option, Some, None}
use Rattle.machine.specs.Call as machine
use Rattle.machine.specs.Call.{first, pairs, split}
use Rattle.machine.proofs.Split.{split-last, split_one, split-two}
use Rattle.calls.specs.Split.{call_of, second_at, width_of}

-- the first word of a call, and how many words it has at least
pub first_of : (w : ℕ) (s : Option ℕ) → first (call_of w s) ≡ w
unfolding first
first_of w None = refl
first_of w (Some v) = refl

pub wide : (s : Option ℕ) → 1 ≤ width_of s
wide None = omega arith
wide (Some v) = omega arith

pub record SplitAt (ws : List ℕ) (i : ℕ) (s : Option ℕ) : Type 0 where
  pub within : i + width_of s ≤ length ws
  pub front : split (drop i ws) ≡ call_of (get_or ws i 0) s ∷ split (drop (i + width_of s) ws)

module _ (ws : List ℕ) (i : ℕ) (l : i < length ws) where
  here : drop i ws ≡ get_or ws i 0 ∷ drop (i + 1) ws
  here = rw (add-one i) (drop-cons ws i 0 l)

  -- the next word is there or not, and makes one call with this one or not
  pub split_at : SplitAt ws i (second_at ws i)
  unfolding second_at
  split_at = go (ltb (i + 1) (length ws)) refl (pairs (get_or ws i 0) (get_or ws (i + 1) 0)) refl
    where
      alone : split (drop i ws) ≡ machine.one (get_or ws i 0) ∷ split (drop (i + 1) ws) → SplitAt ws i None
      alone e = record { within = omega arith; front = e }

      behind : i + 1 < length ws → drop (i + 1) ws ≡ get_or ws (i + 1) 0 ∷ drop (i + 2) ws
      behind m = let two : suc (i + 1) ≡ i + 2 = omega arith in rw (← two) (drop-cons ws (i + 1) 0 m)

      go : (b : Bool) → ltb (i + 1) (length ws) ≡ b → (p : Bool) → pairs (get_or ws i 0) (get_or ws (i + 1) 0) ≡ p → SplitAt ws i (cond (b && p) (Some (get_or ws (i + 1) 0)) None)
      go true b true e =
          let m : i + 1 < length ws = ltb-true _ _ b in
          record {
            within = omega arith;
            front = ap split (here ∙ ap (λ (x : List ℕ). get_or ws i 0 ∷ x) (behind m)) ∙ split-two _ _ _ e;
          }
      go true b false e =
          let m : i + 1 < length ws = ltb-true _ _ b in
          alone
          (ap split (here ∙ ap (λ (x : List ℕ). get_or ws i 0 ∷ x) (behind m))
          ∙ split_one _ _ _ e
          ∙ ap (λ (x : List ℕ). machine.one (get_or ws i 0) ∷ split x) (sym (behind m)))
      go false b p e =
          let none : drop (i + 1) ws ≡ [] = drop_of_length-le ws (ltb-false _ _ b) in
          alone
          (ap split (here ∙ ap (λ (x : List ℕ). get_or ws i 0 ∷ x) none)
          ∙ split-last (get_or ws i 0)
          ∙ ap (λ (x : List ℕ). machine.one (get_or ws i 0) ∷ split x) (sym none))
