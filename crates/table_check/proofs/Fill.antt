-- A loop that fills a list of k places from the front: the first i of them hold f 0, f 1 and so on.
-- Assumes nothing.
use mathlib.Core.Path.{◌≡◌, ◌∙◌}
use mathlib.Core.List.{List}
use Prim.Native.Nat.{ℕ, ◌+◌, ◌<◌}
use native.Mathlib.Omega.{arith}
use borrow.Author.Count.{below_none, below_more}
use lib.ListN.{length, get_or, set, length-set}
use lib.Seq.{get_or-set_same, get_or-set_other}

pub record Filled (f : ℕ → ℕ) (k : ℕ) (xs : List ℕ) (i : ℕ) : Type 0 where
  pub room : length xs ≡ k
  pub each : (j : ℕ) → j < i → get_or xs j 0 ≡ f j

module _ (f : ℕ → ℕ) (k : ℕ) (xs : List ℕ) where
  pub fill_start : length xs ≡ k → Filled f k xs 0
  fill_start r = record { room = r; each = below_none _ }

  pub fill-next : (i x : ℕ) → Filled f k xs i → i < k → x ≡ f i → Filled f k (set xs i x) (i + 1)
  fill-next i x s l e =
      record {
        room = length-set xs i x ∙ s.room;
        each = below_more _ i (λ j b. get_or-set_other xs i j x 0 (λ q. omega arith) ∙ s.each j b) (get_or-set_same xs i x 0 (omega (arith, s.room)) ∙ e);
      }
