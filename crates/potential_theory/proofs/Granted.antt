-- One grant of the closure is a step (proofs/Steps): u, which acts, gives h its rights on g with GRANT among them, and has some
-- right on h. What holds of all rights of a matrix, and of those that can be granted among them, still holds after it. The call
-- in the list of the step does on a table what the step does on the matrix. Assumes nothing.
use mathlib.Core.Path.{◌≡◌, refl, sym, ap, ap₂, subst, subst₂, ◌∙◌}
use mathlib.Core.Bool.{Bool, true, false, cond}
use mathlib.Core.Logic.{⊎_elim}
use mathlib.Core.List.{List, [], ◌∷◌}
use Prim.Native.Nat.{ℕ, ◌+◌, ◌^◌, ◌<◌, ◌≤◌}
use native.Mathlib.Omega.{arith}
use lib.ListN.{length, set}
use lib.Seq.{set-get_or}
use Rattle.machine.specs.Below.{has_bit}
use Rattle.machine.specs.Right.{GRANT, holds, adds, has_any}
use Rattle.machine.specs.Table.{domains, rights}
use Rattle.machine.specs.Call.{Call.one}
use Rattle.machine.specs.Machine.{step}
use Rattle.machine.specs.Run.{run}
use Rattle.machine.proofs.Bools.{or_cases}
use Rattle.machine.proofs.Right.{holds-adds, adds-within}
use Rattle.machine.proofs.Table.{pair-either}
use Rattle.machine.proofs.Step.{stays-accepted}
use Rattle.potential_theory.specs.Closure.{Proper, cell_at, cell, total}
use Rattle.potential_theory.specs.Lists.{grant_word}
use Rattle.potential_theory.proofs.Sets.{some_right, right-any, adds-le, adds_same, adds-more}
use Rattle.potential_theory.proofs.Matrix.{Contains, cell_below, cell_set, cell_other, cell-either, set-proper, total-set}
use Rattle.potential_theory.proofs.Grant.{grant-kind, grant-done, grant-same, grant-other}
use Rattle.potential_theory.proofs.Steps.{Shows, Ran, Step, ran-none}

-- a relation of holder, target and single right that is closed under grants by domains of s
abbrev pub ClosedUnderGrants : ℕ → (ℕ → ℕ → ℕ → Type 0) → Type 0
ClosedUnderGrants s R = (u h g j k : ℕ) → has_bit s u ≡ true → R u g 1 → R u h j → R u g k → R h g k

-- a matrix of n domains with rights of the relation R alone
pub record Within (n : ℕ) (R : ℕ → ℕ → ℕ → Type 0) (m : List ℕ) : Type 0 where
  pub proper : Proper n m
  pub only : (h g k : ℕ) → h < n → g < n → holds (cell n m h g) (2 ^ k) ≡ true → R h g k

-- such a matrix where u is of s; where it has some right on h; where it has GRANT on g too
abbrev pub Acts : ℕ → ℕ → (ℕ → ℕ → ℕ → Type 0) → ℕ → List ℕ → Type 0
Acts n s R u m = Within n R m × (has_bit s u ≡ true)

abbrev pub Reaches : ℕ → ℕ → (ℕ → ℕ → ℕ → Type 0) → ℕ → ℕ → List ℕ → Type 0
Reaches n s R u h m = Acts n s R u m × (has_any (cell n m u h) ≡ true)

abbrev pub MayGrant : ℕ → ℕ → (ℕ → ℕ → ℕ → Type 0) → ℕ → ℕ → ℕ → List ℕ → Type 0
MayGrant n s R u h g m = Reaches n s R u h m × (holds (cell n m u g) GRANT ≡ true)

-- the matrix with the rights of u on g granted to h, and the step's list
abbrev pub granted : ℕ → ℕ → ℕ → ℕ → List ℕ → List ℕ
granted n u h g m = set m (cell_at n h g) (adds (cell n m h g) (cell n m u g))

abbrev pub granted_calls : ℕ → ℕ → ℕ → ℕ → List ℕ → List ℕ
granted_calls n u h g m = cond (holds (cell n m h g) (cell n m u g)) [] (grant_word u h g (cell n m u g) ∷ [])

module _ (n s : ℕ) (R : ℕ → ℕ → ℕ → Type 0) (closed : ClosedUnderGrants s R) (u h g : ℕ) (lu : u < n) (lh : h < n) (lg : g < n) where
  module _ (m : List ℕ) (p : MayGrant n s R u h g m) where
    proper : Proper n m
    proper = p.0.0.0.proper

    most : (h g : ℕ) → cell n m h g ≤ 15
    unfolding cell
    most h g = proper.within _

    granted-more : Contains n m (granted n u h g m)
    granted-more h' g' k lh' lg' had =
        ⊎_elim
        (λ x.
        let here : holds (cell n m h g) (2 ^ k) ≡ true = rw (← x.0, ← x.1) had in
        rw (x.0, x.1, cell_set n m proper.size h g lh lg (adds (cell n m h g) (cell n m u g)), holds-adds, here))
        (λ e. rw e had)
        (cell-either n m proper.size h g lh lg (adds (cell n m h g) (cell n m u g)) h' g' lg')

    -- what h then has on g, h had before or u had
    given-only : (k : ℕ) → holds (cell n (granted n u h g m) h g) (2 ^ k) ≡ true → R h g k
    given-only k has =
        let only = p.0.0.0.only in
        let (j, some) = some_right _ p.0.1 in
        let sum = adds (cell n m h g) (cell n m u g) in
        ⊎_elim (only h g k lh lg)
        (λ own. closed u h g j k p.0.0.1 (only u g 1 lu lg p.1) (only u h j lu lh some) (only u g k lu lg own))
        (or_cases (holds (cell n m h g) (2 ^ k)) (holds (cell n m u g) (2 ^ k))
        (sym (holds-adds (cell n m h g) (cell n m u g) k)
        ∙ sym (ap (λ x. holds x (2 ^ k)) (cell_set n m proper.size h g lh lg sum))
        ∙ has))

    granted-only : (h' g' k : ℕ) → h' < n → g' < n → holds (cell n (granted n u h g m) h' g') (2 ^ k) ≡ true → R h' g' k
    granted-only h' g' k lh' lg' has =
        ⊎_elim
        (λ x.
        let here = subst₂ (λ a b. holds (cell n (granted n u h g m) a b) (2 ^ k) ≡ true) x.0 x.1 has in
        rw (x.0, x.1) (given-only k here))
        (λ e. p.0.0.0.only h' g' k lh' lg' (rw e at has))
        (cell-either n m proper.size h g lh lg (adds (cell n m h g) (cell n m u g)) h' g' lg')

    granted-within : Within n R (granted n u h g m)
    granted-within =
        record { proper = set-proper n m _ _ proper (adds-within _ _ (most h g) (most u g)); only = granted-only }

    granted-reaches : Reaches n s R u h (granted n u h g m)
    granted-reaches =
        let (k, had) = some_right _ p.0.1 in
        ((granted-within, p.0.0.1), right-any _ k (granted-more u h k lu lh had))

    -- the sum of the cells rises by what is new
    granted-total : total (granted n u h g m) + cell n m h g ≡ total m + adds (cell n m h g) (cell n m u g)
    unfolding cell
    granted-total = total-set m (cell_at n h g) _ (cell_below n m proper.size h g lh lg)

    granted-same : adds (cell n m h g) (cell n m u g) ≡ cell n m h g → granted n u h g m ≡ m
    unfolding cell
    granted-same e = ap (set m (cell_at n h g)) e ∙ set-get_or m (cell_at n h g) 0

    granted-still : total (granted n u h g m) ≤ total m → granted n u h g m ≡ m
    granted-still l = granted-same (omega (arith, granted-total, adds-le (cell n m h g) (cell n m u g)))

    granted-grows : (b : Bool) → holds (cell n m h g) (cell n m u g) ≡ b → length (cond b [] (grant_word u h g (cell n m u g) ∷ [])) + total m ≤ total (granted n u h g m)
    granted-grows true e = omega (arith, granted-total, adds-le (cell n m h g) (cell n m u g))
    granted-grows false e = omega (arith, granted-total, adds-more (cell n m h g) (cell n m u g) e)

    module _ (x : List ℕ) (shows : Shows n m x) where
      u-below : u < domains x
      u-below = subst (λ k. u < k) (sym shows.count) lu

      h-below : h < domains x
      h-below = subst (λ k. h < k) (sym shows.count) lh

      g-below : g < domains x
      g-below = subst (λ k. g < k) (sym shows.count) lg

      own : rights x u g ≡ cell n m u g
      own = shows.same u g lu lg

      may : holds (rights x u g) GRANT ≡ true
      may = rw own p.1

      some : has_any (rights x u h) ≡ true
      some = rw (shows.same u h lu lh) p.0.1

      abbrev left : List ℕ
      left = step x (one (grant_word u h g (rights x u g)))

      left-same : (h' g' : ℕ) → h' < n → g' < n → rights left h' g' ≡ cell n (granted n u h g m) h' g'
      left-same h' g' lh' lg' =
          let sum = adds (cell n m h g) (cell n m u g) in
          ⊎_elim
          (λ e.
          rw (e.0, e.1)
          (grant-same x shows.accepted u h g u-below h-below g-below may some
          ∙ ap₂ adds (shows.same h g lh lg) own
          ∙ sym (cell_set n m proper.size h g lh lg sum)))
          (λ other.
          grant-other x shows.accepted u h g u-below h-below g-below may some h' g' (subst (λ k. g' < k) (sym shows.count) lg') other
          ∙ shows.same h' g' lh' lg'
          ∙ sym (cell_other n m proper.size h g lh lg sum h' g' lg' other))
          (pair-either h' g' h g)

      left-shows : Shows n (granted n u h g m) left
      left-shows =
          let stays = stays-accepted x (one (grant_word u h g (rights x u g))) shows.accepted in
          record { accepted = stays.accepted; count = stays.frame.same_domains ∙ shows.count; same = left-same }

      ran-left : Ran n s (granted n u h g m) x (grant_word u h g (rights x u g) ∷ [])
      unfolding run
      ran-left =
          record {
            shows = left-shows;
            done = (grant-done x shows.accepted u h g u-below h-below g-below may some s p.0.0.1, tt);
            grants = (grant-kind x shows.accepted u h g u-below h-below g-below may some, tt);
          }

      granted-runs : (b : Bool) → holds (cell n m h g) (cell n m u g) ≡ b → Ran n s (granted n u h g m) x (cond b [] (grant_word u h g (cell n m u g) ∷ []))
      granted-runs true e = rw (granted-same (adds_same _ _ e)) (ran-none n s m x shows)
      granted-runs false e = subst (λ r. Ran n s (granted n u h g m) x (grant_word u h g r ∷ [])) own ran-left

  pub granted-step : Step n s (MayGrant n s R u h g) (Reaches n s R u h) (granted n u h g) (granted_calls n u h g)
  granted-step =
      record {
        keeps = granted-reaches;
        more = granted-more;
        grows = λ m p. granted-grows m p _ refl;
        still = granted-still;
        runs = λ m x p shows. granted-runs m p x shows _ refl;
      }
