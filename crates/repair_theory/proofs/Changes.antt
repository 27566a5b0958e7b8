-- Laws of the changes between two tables (specs/Changes): they are exactly the places at which the tables differ, in order, and
-- putting them back gives the old table. Assumes nothing.
use Prim.Native.Nat.{ℕ, zero, suc, ◌+◌, ◌*◌, ◌<◌, ◌≤◌}
use mathlib.Core.Path.{◌≡◌, refl, sym, ap, subst, ◌∙◌}
use mathlib.Core.Bool.{Bool, true, false, cond, not, false≢true}
use mathlib.Core.Logic.{◌⊎◌, ⊎_elim}
use mathlib.Core.List.{List, [], ◌∷◌, ◌++◌, append-nil}
use native.Mathlib.Nat.{not-suc-le-zero}
use native.Mathlib.Omega.{arith}
use borrow.Author.Tests.{eqb-true, not-false}
use lib.Dec.{eqb}
use lib.ListN.{length, get_or, set, length-append, length-set, get_or-append}
use lib.Seq.{get_or_at, get_or-set_same, get_or-set_other, ext_get_or}
use Rattle.machine.specs.Below.{numbers_below}
use Rattle.machine.proofs.Below.{below-or-last}
use Rattle.repair_theory.specs.Changes.{differing, change_pairs, changes, put_back}

-- ---- the numbers below k of which p holds

-- what is listed: each passes, they ascend, and every one that passes is there
pub record Lists (k : ℕ) (p : ℕ → Bool) (is : List ℕ) : Type 0 where
  pub few : length is ≤ k
  pub below : (j : ℕ) → j < length is → get_or is j 0 < k
  pub passes : (j : ℕ) → j < length is → p (get_or is j 0) ≡ true
  pub ascend : (j : ℕ) → j + 1 < length is → get_or is j 0 < get_or is (j + 1) 0
  pub all : (i : ℕ) → i < k → p i ≡ true → (j : ℕ) × (j < length is) × (get_or is j 0 ≡ i)

-- k itself fails
lists-fails : (k : ℕ) (p : ℕ → Bool) (is : List ℕ) → Lists k p is → p k ≡ false → Lists (suc k) p is
lists-fails k p is l fails =
    record {
      few = omega (arith, l.few);
      below = λ j b. omega (arith, l.below j b);
      passes = l.passes;
      ascend = l.ascend;
      all =
          λ i b holds.
          ⊎_elim (λ c. l.all i c holds) (λ e. absurd (false≢true (sym fails ∙ ap p (sym e) ∙ holds))) (below-or-last k i b);
    }

-- k itself passes, and is put last
module _ (k : ℕ) (p : ℕ → Bool) (is : List ℕ) (l : Lists k p is) (holds : p k ≡ true) where
  more : length (is ++ (k ∷ [])) ≡ length is + 1
  more = length-append is (k ∷ [])

  old-at : (j : ℕ) → j < length is → get_or (is ++ (k ∷ [])) j 0 ≡ get_or is j 0
  old-at j b = get_or-append is (k ∷ []) 0 j b

  last-at : (j : ℕ) → j ≡ length is → get_or (is ++ (k ∷ [])) j 0 ≡ k
  last-at j e = get_or_at is k [] 0 j (sym e)

  place : (j : ℕ) → j < length (is ++ (k ∷ [])) → (j < length is) ⊎ (j ≡ length is)
  place j b = below-or-last (length is) j (omega (arith, more))

  lists-passes : Lists (suc k) p (is ++ (k ∷ []))
  lists-passes =
      record {
        few = omega (arith, more, l.few);
        below =
            λ j b.
            ⊎_elim (λ c. omega (arith, old-at j c, l.below j c)) (λ e. omega (arith, last-at j e)) (place j b);
        passes =
            λ j b.
            ⊎_elim (λ c. ap p (old-at j c) ∙ l.passes j c) (λ e. ap p (last-at j e) ∙ holds) (place j b);
        ascend =
            λ j b.
            let c : j < length is = omega (arith, more) in
            ⊎_elim
            (λ d. omega (arith, old-at j c, old-at (j + 1) d, l.ascend j d))
            (λ e. omega (arith, old-at j c, last-at (j + 1) e, l.below j c))
            (place (j + 1) b);
        all =
            λ i b passed.
            ⊎_elim
            (λ c. let (j, d, e) = l.all i c passed in (j, omega (arith, more), old-at j d ∙ e))
            (λ e. (length is, omega (arith, more), last-at (length is) refl ∙ sym e))
            (below-or-last k i b);
      }

pub lists-numbers : (k : ℕ) (p : ℕ → Bool) → Lists k p (numbers_below k p)
unfolding numbers_below
lists-numbers zero p =
    record {
      few = omega arith;
      below = λ j b. absurd (not-suc-le-zero b);
      passes = λ j b. absurd (not-suc-le-zero b);
      ascend = λ j b. absurd (not-suc-le-zero b);
      all = λ i b _. absurd (not-suc-le-zero b);
    }
lists-numbers (suc k) p = go (lists-numbers k p) (p k) refl
  where
    go : Lists k p (numbers_below k p) → (b : Bool) → p k ≡ b → Lists (suc k) p (numbers_below k p ++ cond b (k ∷ []) [])
    go l true holds = lists-passes k p (numbers_below k p) l holds
    go l false fails = subst (Lists (suc k) p) (sym (append-nil (numbers_below k p))) (lists-fails k p (numbers_below k p) l fails)

-- none passes
pub none-listed : (k : ℕ) (p : ℕ → Bool) → ((i : ℕ) → p i ≡ false) → numbers_below k p ≡ []
unfolding numbers_below
none-listed zero p fail = refl
none-listed (suc k) p fail = rw (none-listed k p fail, fail k)

-- ---- pairs

module _ (t : List ℕ) where
  pub pairs-length : (is : List ℕ) → length (change_pairs t is) ≡ 2 * length is
  unfolding change_pairs
  pairs-length [] = refl
  pairs-length (i ∷ is) = omega (arith, pairs-length is)

  pub pairs-append : (is js : List ℕ) → change_pairs t (is ++ js) ≡ change_pairs t is ++ change_pairs t js
  unfolding change_pairs
  pairs-append [] js = refl
  pairs-append (i ∷ is) js = ap (λ (x : List ℕ). i ∷ get_or t i 0 ∷ x) (pairs-append is js)

  -- pair j: a place and its content
  pub pairs-place : (is : List ℕ) (j : ℕ) → j < length is → get_or (change_pairs t is) (2 * j) 0 ≡ get_or is j 0
  unfolding change_pairs
  pairs-place [] j l = absurd (not-suc-le-zero l)
  pairs-place (i ∷ is) zero l = refl
  pairs-place (i ∷ is) (suc j) l =
      let at : 2 * suc j ≡ suc (suc (2 * j)) = omega arith in
      rw at (pairs-place is j (omega arith))

  pub pairs-content : (is : List ℕ) (j : ℕ) → j < length is → get_or (change_pairs t is) (2 * j + 1) 0 ≡ get_or t (get_or is j 0) 0
  unfolding change_pairs
  pairs-content [] j l = absurd (not-suc-le-zero l)
  pairs-content (i ∷ is) zero l = refl
  pairs-content (i ∷ is) (suc j) l =
      let at : 2 * suc j + 1 ≡ suc (suc (2 * j + 1)) = omega arith in
      rw at (pairs-content is j (omega arith))

-- ---- putting back

-- pairs are put back one after the other
put-back-append : (t s : List ℕ) (is rest : List ℕ) → put_back s (change_pairs t is ++ rest) ≡ put_back (put_back s (change_pairs t is)) rest
unfolding put_back change_pairs
put-back-append t s [] rest = refl
put-back-append t s (i ∷ is) rest = put-back-append t (set s i (get_or t i 0)) is rest

-- the words of t below k are the old ones again, and those from k on still the new ones
record Back (old new : List ℕ) (k : ℕ) (t : List ℕ) : Type 0 where
  size : length t ≡ length old
  done : (i : ℕ) → i < k → get_or t i 0 ≡ get_or old i 0
  rest : (i : ℕ) → k ≤ i → get_or t i 0 ≡ get_or new i 0

module _ {old new : List ℕ} {k : ℕ} {t : List ℕ} (b : Back old new k t) where
  -- a word that doesn't differ
  back-same : get_or old k 0 ≡ get_or new k 0 → Back old new (suc k) t
  back-same e =
      record {
        size = b.size;
        done = λ i l. ⊎_elim (λ c. b.done i c) (λ at. subst (λ (j : ℕ). get_or t j 0 ≡ get_or old j 0) (sym at) (b.rest k (omega arith) ∙ sym e)) (below-or-last k i l);
        rest = λ i l. b.rest i (omega arith);
      }

  -- one that is put back
  back-put : k < length old → Back old new (suc k) (set t k (get_or old k 0))
  back-put within =
      record {
        size = length-set t k (get_or old k 0) ∙ b.size;
        done =
            λ i l.
            ⊎_elim
            (λ c. get_or-set_other t k i (get_or old k 0) 0 (λ e. omega arith) ∙ b.done i c)
            (λ at.
            subst (λ (j : ℕ). get_or (set t k (get_or old k 0)) j 0 ≡ get_or old j 0) (sym at)
            (get_or-set_same t k (get_or old k 0) 0 (omega (arith, b.size))))
            (below-or-last k i l);
        rest = λ i l. get_or-set_other t k i (get_or old k 0) 0 (λ e. omega arith) ∙ b.rest i (omega arith);
      }

-- the places at which two tables differ
abbrev pub differs_at : List ℕ → List ℕ → ℕ → Bool
differs_at old new i = not (eqb (get_or old i 0) (get_or new i 0))

back : (old new : List ℕ) → length new ≡ length old → (k : ℕ) → k ≤ length old → Back old new k (put_back new (change_pairs old (numbers_below k (differs_at old new))))
unfolding numbers_below put_back change_pairs
back old new size zero l = record { size = size; done = λ i b. absurd (not-suc-le-zero b); rest = λ i b. refl }
back old new size (suc k) l = go (back old new size k (omega arith)) (differs_at old new k) refl
  where
    before : List ℕ
    before = numbers_below k (differs_at old new)

    go : Back old new k (put_back new (change_pairs old before)) → (b : Bool) → differs_at old new k ≡ b → Back old new (suc k) (put_back new (change_pairs old (before ++ cond b (k ∷ []) [])))
    go h true e =
        subst (Back old new (suc k))
        (sym (ap (put_back new) (pairs-append old before (k ∷ [])) ∙ put-back-append old new before (k ∷ get_or old k 0 ∷ [])))
        (back-put h (omega arith))
    go h false e =
        subst (λ (x : List ℕ). Back old new (suc k) (put_back new (change_pairs old x))) (sym (append-nil before))
        (back-same h (eqb-true _ _ (not-false _ e)))

-- all the words that differ put back
pub put-back-changes : (old new : List ℕ) → length new ≡ length old → put_back new (changes old new) ≡ old
unfolding changes differing
put-back-changes old new size =
    let b = back old new size (length old) (omega arith) in
    ext_get_or 0 _ old b.size (λ i l. b.done i (omega (arith, b.size)))
