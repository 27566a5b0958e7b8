-- The first calls of a list, run alone, leave the holders as they are after these calls (specs/Claims: HoldersAfterEveryCall).
-- Assumes nothing.
use mathlib.Core.Path.{◌≡◌, refl, sym, ap, ◌∙◌}
use mathlib.Core.Bool.{Bool, true, false, cond}
use mathlib.Core.List.{List, [], ◌∷◌}
use Prim.Native.Nat.{ℕ, zero, suc, ◌≤◌, ◌<◌, ◌*◌, zero-le}
use native.Mathlib.Decide.{dec_lt}
use native.Mathlib.Omega.{arith}
use lib.ListN.{length, take, length-take}
use Rattle.machine.specs.Call.{Call, Call.one, Call.two, pairs, split, words_of}
use Rattle.machine.specs.Entry.{ran, Runs}
use Rattle.machine.proofs.Split.{split-two, split_one}
use Rattle.machine.proofs.Promise.{runs-accepted, runs-short, code-space, code-holders, entry-ran, entry-code}
use Rattle.holders_theory.specs.Noted.{first_words}
use Rattle.holders_theory.specs.Claims.{HoldersAfterEveryCall}
use Rattle.holders_theory.proofs.Kept.{holders-kept-along}

-- ---- the words of the first calls

-- they begin with the list's first word
starts : (k v : ℕ) (ws : List ℕ) → (rest : List ℕ) × (first_words (suc k) (v ∷ ws) ≡ v ∷ rest)
unfolding first_words words_of split
starts k v [] = (words_of (take k []), refl)
starts k v (x ∷ ws) = go (pairs v x)
  where
    go : (b : Bool) → (rest : List ℕ) × (words_of (take (suc k) (cond b (two v x ∷ split ws) (one v ∷ split (x ∷ ws)))) ≡ v ∷ rest)
    go true = (x ∷ words_of (take k (split ws)), refl)
    go false = (words_of (take k (split (x ∷ ws))), refl)

-- no call that ends the list of the first
nothing-after : (k w : ℕ) → split (w ∷ words_of (take k [])) ≡ one w ∷ take k []
unfolding words_of split
nothing-after zero w = refl
nothing-after (suc k) w = refl

-- a word that makes no call with the next is a call before them, too
after_one : (k w v : ℕ) (ws : List ℕ) → pairs w v ≡ false → split (first_words k (v ∷ ws)) ≡ take k (split (v ∷ ws)) → split (w ∷ first_words k (v ∷ ws)) ≡ one w ∷ take k (split (v ∷ ws))
unfolding first_words words_of split
after_one zero w v ws e h = refl
after_one (suc k) w v ws e h =
    let (rest, is) = starts k v ws in
    ap (λ (x : List ℕ). split (w ∷ x)) is
    ∙ split_one w v rest e
    ∙ ap (λ (x : List ℕ). one w ∷ split x) (sym is)
    ∙ ap (λ (x : List Call). one w ∷ x) h

-- they are split into these calls again
pub first-split : (k : ℕ) (ws : List ℕ) → split (first_words k ws) ≡ take k (split ws)
unfolding first_words words_of split
first-split zero ws = refl
first-split (suc k) [] = refl
first-split (suc k) (w ∷ []) = nothing-after k w
first-split (suc k) (w ∷ (v ∷ ws)) = go (pairs w v) refl (first-split k ws) (first-split k (v ∷ ws))
  where
    go :
        (b : Bool)
        → pairs w v ≡ b
        → split (first_words k ws) ≡ take k (split ws)
        → split (first_words k (v ∷ ws)) ≡ take k (split (v ∷ ws))
        → split (words_of (take (suc k) (cond b (two w v ∷ split ws) (one w ∷ split (v ∷ ws)))))
        ≡ take (suc k) (cond b (two w v ∷ split ws) (one w ∷ split (v ∷ ws)))
    go true e h i = split-two w v (first_words k ws) e ∙ ap (λ (x : List Call). two w v ∷ x) h
    go false e h i = after_one k w v ws e i

-- and are no more than the list's
pub first-few : (k : ℕ) (ws : List ℕ) → length (first_words k ws) ≤ length ws
unfolding first_words words_of split
first-few zero ws = zero-le
first-few (suc k) [] = zero-le
first-few (suc k) (w ∷ []) = go k
  where
    go : (k : ℕ) → length (words_of (take (suc k) (one w ∷ []))) ≤ 1
    go zero = omega arith
    go (suc k) = omega arith
first-few (suc k) (w ∷ (v ∷ ws)) = go (pairs w v) (first-few k ws) (first-few k (v ∷ ws))
  where
    go :
        (b : Bool)
        → length (words_of (take k (split ws))) ≤ length ws
        → length (words_of (take k (split (v ∷ ws)))) ≤ suc (length ws)
        → length (words_of (take (suc k) (cond b (two w v ∷ split ws) (one w ∷ split (v ∷ ws))))) ≤ suc (suc (length ws))
    go true h i = omega arith
    go false h i = omega arith

-- ---- of a list that runs

module _ (t ws : List ℕ) (size lent : ℕ) (r : Runs t ws size lent) where
  enough : 3 * length (split ws) ≤ size
  enough = go (dec_lt size (3 * length (split ws)))
    where
      go : Dec (size < 3 * length (split ws)) → 3 * length (split ws) ≤ size
      go (yes l) =
          absurd (omega (arith, code-space t ws size lent (runs-short t ws size lent r) (runs-accepted t ws size lent r) l, r))
      go (no n) = omega arith

  -- the first calls of a list that runs, run, in the same space
  first_runs : (k : ℕ) → Runs t (first_words k ws) size lent
  first_runs k =
      let short = runs-short t ws size lent r in
      let a = runs-accepted t ws size lent r in
      let fewer : 3 * length (split (first_words k ws)) ≤ size =
      omega (arith, enough, ap length (first-split k ws), length-take k (split ws)) in
      code-holders t (first_words k ws) size lent (omega (arith, short, first-few k ws)) a fewer
      ∙ sym (code-holders t ws size lent short a enough)
      ∙ r

pub holders-after-every-call : HoldersAfterEveryCall
unfolding ran
holders-after-every-call t ws space holders calls answers end kept k p =
    let r : Runs t ws (length space) (length holders) = sym (p.same_code ∙ entry-code t ws space holders) in
    record {
      noted = holders-kept-along t (split ws) k (runs-accepted t ws _ _ r);
      runs = first_runs t ws (length space) (length holders) r k;
      left =
          λ space' holders' calls' answers' end' kept' q.
          let whole = entry-ran t (first_words k ws) space' holders' (sym (q.same_code ∙ entry-code t (first_words k ws) space' holders')) in
          (rw (q.same_holders ∙ ap (λ o. o.holders) whole, first-split k ws), rw (q.same_table ∙ ap (λ o. o.table) whole, first-split k ws));
    }
