-- The invariants of the two loops: what is left to do completes the result. Assumes nothing.
use mathlib.Core.Path.{◌≡◌, refl, sym, ap, ◌∙◌}
use mathlib.Core.Bool.{cond}
use mathlib.Core.List.{List}
use Prim.Native.Nat.{ℕ, zero, suc, ◌+◌, ◌-◌, ◌/◌, ◌%◌, ◌<◌, ◌≤◌}
use native.Mathlib.Numerals.{add-one}
use native.Mathlib.Omega.{arith}
use borrow.Author.Tests.{eq-eqb, ne_eqb}
use lib.Bits.{bit_or}
use lib.Dec.{eqb}
use lib.ListN.{length, get_or, drop, drop_of_length-le}
use lib.Seq.{drop-cons}
use Rattle.reachability.specs.Closure.{with_words, widened, rounds, closed}

-- ---- one round: v words have been passed, and members is what is left of the set
pub record Widening (ws : List ℕ) (s wide members v : ℕ) : Type 0 where
  pub left : with_words (drop v ws) members wide ≡ widened ws s

pub widening-start : (ws : List ℕ) (s : ℕ) → Widening ws s s s 0
unfolding widened
widening-start ws s = record { left = refl }

module _ (ws : List ℕ) (s wide members v : ℕ) (w : Widening ws s wide members v) where
  module _ (l : v < length ws) where
    next : with_words (drop (v + 1) ws) (members / 2) (cond (eqb (members % 2) 1) (bit_or wide (get_or ws v 0)) wide) ≡ widened ws s
    unfolding with_words
    next =
        rw add-one (sym (ap (λ us. with_words us members wide) (drop-cons ws v 0 l)) ∙ w.left)

    -- word v counts where v is a member, and else not
    pub widening-member : members % 2 ≡ 1 → Widening ws s (bit_or wide (get_or ws v 0)) (members / 2) (v + 1)
    widening-member e = record { left = rw (eq-eqb (members % 2) 1 e) at next }

    pub widening-other : (members % 2 ≡ 1 → ⊥) → Widening ws s wide (members / 2) (v + 1)
    widening-other n = record { left = rw (ne_eqb (members % 2) 1 n) at next }

  pub widening-end : length ws ≤ v → wide ≡ widened ws s
  unfolding with_words
  widening-end l = sym (ap (λ us. with_words us members wide) (drop_of_length-le ws l)) ∙ w.left

-- ---- all rounds: this many have been made
pub record Closing (ws : List ℕ) (s reached round : ℕ) : Type 0 where
  pub left : rounds (length ws - round) ws reached ≡ closed ws s

pub closing-start : (ws : List ℕ) (s : ℕ) → Closing ws s s 0
unfolding closed
closing-start ws s = record { left = ap (λ k. rounds k ws s) (omega arith) }

-- a round that adds nobody is followed by none that does
still : (k : ℕ) (ws : List ℕ) (s : ℕ) → widened ws s ≡ s → rounds k ws s ≡ s
unfolding rounds
still zero ws s e = refl
still (suc k) ws s e = ap (rounds k ws) e ∙ still k ws s e

module _ (ws : List ℕ) (s reached round : ℕ) (c : Closing ws s reached round) where
  pub closing-still : widened ws reached ≡ reached → reached ≡ closed ws s
  closing-still e = sym (still (length ws - round) ws reached e) ∙ c.left

  pub closing-next : round < length ws → Closing ws s (widened ws reached) (round + 1)
  unfolding rounds
  closing-next l =
      let one : length ws - round ≡ suc (length ws - (round + 1)) = omega arith in
      record { left = sym (ap (λ k. rounds k ws reached) one) ∙ c.left }

  pub closing_end : length ws ≤ round → reached ≡ closed ws s
  unfolding rounds
  closing_end l =
      let none : length ws - round ≡ 0 = omega arith in
      sym (ap (λ k. rounds k ws reached) none) ∙ c.left
