-- Words of k bits and a set of k bits have a closure of k bits. Assumes nothing.
use mathlib.Core.Path.{sym, subst}
use mathlib.Core.Bool.{Bool, true, false, cond}
use mathlib.Core.Logic.{⊎_elim}
use mathlib.Core.List.{List, [], ◌∷◌}
use Prim.Native.Nat.{ℕ, zero, suc, ◌/◌, ◌%◌, ◌^◌, ◌<◌}
use lib.Bits.{bit_or, or_lt}
use lib.Dec.{eqb, ltb}
use lib.ListN.{length, get_or}
use lib.Pow.{pow_pos, pow-lt}
use Rattle.machine.proofs.Bools.{either}
use Rattle.machine.proofs.Below.{bits-lt}
use Rattle.reachability.specs.Closure.{with_words, widened, rounds, closed}
use Rattle.reachability.specs.Chain.{link_words}
use Rattle.reachability.proofs.Chain.{word_at, word-past}

module _ (k : ℕ) where
  with-lt : (ws : List ℕ) (members wide : ℕ) → ((v : ℕ) → get_or ws v 0 < 2 ^ k) → wide < 2 ^ k → with_words ws members wide < 2 ^ k
  unfolding with_words
  with-lt [] members wide small h = h
  with-lt (w ∷ ws) members wide small h =
      with-lt ws (members / 2) _ (λ v. small (suc v)) (go (eqb (members % 2) 1))
    where
      go : (b : Bool) → cond b (bit_or wide w) wide < 2 ^ k
      go true = or_lt k wide w h (small 0)
      go false = h

  rounds-lt : (j : ℕ) (ws : List ℕ) (s : ℕ) → ((v : ℕ) → get_or ws v 0 < 2 ^ k) → s < 2 ^ k → rounds j ws s < 2 ^ k
  unfolding rounds widened
  rounds-lt zero ws s small h = h
  rounds-lt (suc j) ws s small h = rounds-lt j ws (widened ws s) small (with-lt ws s s small h)

  pub closed-lt : (ws : List ℕ) (s : ℕ) → ((v : ℕ) → get_or ws v 0 < 2 ^ k) → s < 2 ^ k → closed ws s < 2 ^ k
  unfolding closed
  closed-lt ws s = rounds-lt (length ws) ws s

-- of a relation below n, and of one number below n, it has n bits
pub relation-lt : (n : ℕ) (r : ℕ → ℕ → Bool) (d : ℕ) → d < n → closed (link_words n r) (2 ^ d) < 2 ^ n
relation-lt n r d l = closed-lt n (link_words n r) (2 ^ d) word_lt (pow-lt l)
  where
    word_lt : (v : ℕ) → get_or (link_words n r) v 0 < 2 ^ n
    word_lt v =
        ⊎_elim (λ b. subst (λ w. w < 2 ^ n) (sym (word_at n r v b)) (bits-lt n (λ u. r u v)))
        (λ b. subst (λ w. w < 2 ^ n) (sym (word-past n r v b)) (pow_pos n))
        (either (ltb v n))
