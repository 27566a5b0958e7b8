-- The words of a relation (specs/Chain: link_words) as they are made one after the other, each bit by bit. Assumes nothing.
use mathlib.Core.Path.{◌≡◌, sym, ap, ◌∙◌}
use mathlib.Core.Bool.{Bool, true, false}
use mathlib.Core.List.{List, [], ◌∷◌, ◌++◌}
use Prim.Native.Nat.{ℕ, ◌+◌, ◌^◌, ◌<◌}
use native.Mathlib.Nat.{one-mul}
use native.Mathlib.Numerals.{add-one}
use native.Mathlib.Omega.{arith}
use lib.Bits.{bit_or, or_shifted_r}
use lib.ListN.{length, take, set}
use lib.Seq.{take-suc-set}
use Rattle.machine.specs.Below.{sum_below, words_below, bits_below}
use Rattle.machine.proofs.Below.{bits-lt}

-- one bit more of the set of those of which p holds
module _ (p : ℕ → Bool) (u : ℕ) where
  pub bits-with : true ≡ p u → bit_or (bits_below u p) (2 ^ u) ≡ bits_below (u + 1) p
  unfolding bits_below sum_below
  bits-with h =
      rw (add-one, ← h)
      (ap (bit_or (bits_below u p)) (sym (one-mul (2 ^ u))) ∙ or_shifted_r 1 u (bits_below u p) (bits-lt u p) ∙ omega arith)

  pub bits-without : false ≡ p u → bits_below u p ≡ bits_below (u + 1) p
  unfolding bits_below sum_below
  bits-without h = rw (add-one, ← h) (omega arith)

-- one word more
pub words_next : (f : ℕ → ℕ) (ws : List ℕ) (v : ℕ) → v < length ws → take v ws ≡ words_below v f → take (v + 1) (set ws v (f v)) ≡ words_below (v + 1) f
unfolding words_below
words_next f ws v l e = rw add-one (take-suc-set ws v (f v) l ∙ ap (λ us. us ++ (f v ∷ [])) e)
