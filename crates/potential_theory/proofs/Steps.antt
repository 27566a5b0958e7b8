-- A step of the closure, and what holds of it. It keeps what the next one needs, takes no right away, adds at least as much as
-- there are calls in its list, and adds nothing only where it leaves the matrix as it is. The calls of its list do on a table
-- what it does on the matrix. Whatever is made of such steps, one after the other or under a test, is such a step again.
-- Assumes nothing.
use mathlib.Core.Path.{◌≡◌, refl, subst, ◌∙◌}
use mathlib.Core.Bool.{Bool, true, false, cond}
use mathlib.Core.Logic.{⊎_elim}
use mathlib.Core.List.{List, [], ◌∷◌, ◌++◌, map, map-append}
use Prim.Native.Nat.{ℕ, zero, suc, ◌+◌, ◌<◌, ◌≤◌}
use native.Mathlib.Nat.{not-suc-le-zero}
use native.Mathlib.Omega.{arith}
use lib.ListN.{length, length-append}
use Rattle.machine.specs.Table.{domains, rights}
use Rattle.machine.specs.Check.{Accepted}
use Rattle.machine.specs.Call.{Call, Call.one}
use Rattle.machine.specs.Machine.{step}
use Rattle.machine.specs.Run.{run}
use Rattle.machine.proofs.Bools.{cond-elim}
use Rattle.machine.proofs.Below.{below-or-last}
use Rattle.machine.proofs.Counts.{run-append}
use Rattle.potential_theory.specs.Closure.{cell, steps_below, total}
use Rattle.potential_theory.specs.Lists.{calls_below}
use Rattle.potential_theory.specs.Claims.{AllDoneBy}
use Rattle.potential_theory.proofs.Matrix.{Contains}
use Rattle.potential_theory.proofs.Grant.{AllGrants}

-- an accepted table of n domains that has the rights of the matrix m
pub record Shows (n : ℕ) (m t : List ℕ) : Type 0 where
  pub accepted : Accepted t
  pub count : domains t ≡ n
  pub same : (h g : ℕ) → h < n → g < n → rights t h g ≡ cell n m h g

-- the words ws, each a grant, were run from the table t as calls of domains of s, none was refused, and the table left has the
-- rights of the matrix m
pub record Ran (n s : ℕ) (m t ws : List ℕ) : Type 0 where
  pub shows : Shows n m (run t (map one ws))
  pub done : AllDoneBy s t (map one ws)
  pub grants : AllGrants ws

-- a step f with the list calls, from matrices of which P holds to those of which Q does
pub record Step (n s : ℕ) (P Q : List ℕ → Type 0) (f calls : List ℕ → List ℕ) : Type 0 where
  pub keeps : (m : List ℕ) → P m → Q (f m)
  pub more : (m : List ℕ) → P m → Contains n m (f m)
  pub grows : (m : List ℕ) → P m → length (calls m) + total m ≤ total (f m)
  pub still : (m : List ℕ) → P m → total (f m) ≤ total m → f m ≡ m
  pub runs : (m t : List ℕ) → P m → Shows n m t → Ran n s (f m) t (calls m)

-- ---- runs one after the other

pub all-done-append : (s : ℕ) (t : List ℕ) (cs ds : List Call) → AllDoneBy s t cs → AllDoneBy s (run t cs) ds → AllDoneBy s t (cs ++ ds)
unfolding run
all-done-append s t [] ds p q = q
all-done-append s t (c ∷ cs) ds p q = (p.0, all-done-append s (step t c) cs ds p.1 q)

all-grants-append : (ws vs : List ℕ) → AllGrants ws → AllGrants vs → AllGrants (ws ++ vs)
all-grants-append [] vs p q = q
all-grants-append (w ∷ ws) vs p q = (p.0, all-grants-append ws vs p.1 q)

module _ (n s : ℕ) where
  pub ran-none : (m t : List ℕ) → Shows n m t → Ran n s m t []
  unfolding run
  ran-none m t x = record { shows = x; done = tt; grants = tt }

  ran_append :
      (m m' t ws vs : List ℕ) → Ran n s m t ws → Ran n s m' (run t (map one ws)) vs → Ran n s m' t (ws ++ vs)
  ran_append m m' t ws vs x y =
      record {
        shows = rw (map-append one ws vs, run-append t (map one ws) (map one vs)) y.shows;
        done = rw (map-append one ws vs) (all-done-append s t (map one ws) (map one vs) x.done y.done);
        grants = all-grants-append ws vs x.grants y.grants;
      }

  -- ---- steps made of steps

  pub step-none : (P : List ℕ → Type 0) → Step n s P P (λ m. m) (λ m. [])
  step-none P =
      record {
        keeps = λ m p. p;
        more = λ m p h g k lh lg x. x;
        grows = λ m p. omega arith;
        still = λ m p l. refl;
        runs = λ m t p x. ran-none m t x;
      }

  -- a step from fewer matrices, of which less is wanted
  pub step-as :
      {P P' Q Q' : List ℕ → Type 0} {f calls : List ℕ → List ℕ}
      → ((m : List ℕ) → P' m → P m)
      → ((m : List ℕ) → Q m → Q' m)
      → Step n s P Q f calls
      → Step n s P' Q' f calls
  step-as pre post x =
      record {
        keeps = λ m p. post _ (x.keeps m (pre m p));
        more = λ m p. x.more m (pre m p);
        grows = λ m p. x.grows m (pre m p);
        still = λ m p. x.still m (pre m p);
        runs = λ m t p. x.runs m t (pre m p);
      }

  pub step_then :
      {P Q R : List ℕ → Type 0} {f calls f' calls' : List ℕ → List ℕ}
      → Step n s P Q f calls
      → Step n s Q R f' calls'
      → Step n s P R (λ m. f' (f m)) (λ m. calls m ++ calls' (f m))
  step_then {P} {Q} {R} {f} {calls} {f'} {calls'} x y =
      record {
        keeps = λ m p. y.keeps (f m) (x.keeps m p);
        more = λ m p h g k lh lg had. y.more (f m) (x.keeps m p) h g k lh lg (x.more m p h g k lh lg had);
        grows =
            λ m p.
            omega (arith, length-append (calls m) (calls' (f m)), x.grows m p, y.grows (f m) (x.keeps m p));
        still =
            λ m p l.
            let first = x.still m p (omega (arith, y.grows (f m) (x.keeps m p))) in
            let second = y.still (f m) (x.keeps m p) (omega (arith, x.grows m p)) in
            second ∙ first;
        runs = λ m t p shows. let r = x.runs m t p shows in ran_append (f m) _ t _ _ r (y.runs (f m) _ (x.keeps m p) r.shows);
      }

  pub step-if :
      {P : List ℕ → Type 0} {f calls : List ℕ → List ℕ} (b : List ℕ → Bool)
      → Step n s (λ m. P m × (b m ≡ true)) P f calls
      → Step n s P P (λ m. cond (b m) (f m) m) (λ m. cond (b m) (calls m) [])
  step-if {P} {f} {calls} b x =
      record {
        keeps = λ m p. cond-elim P (b m) (λ e. x.keeps m (p, e)) (λ _. p);
        more = λ m p. cond-elim (Contains n m) (b m) (λ e. x.more m (p, e)) (λ _ h g k lh lg had. had);
        grows = λ m p. grown m p (b m) refl;
        still = λ m p. cond-elim (λ m'. total m' ≤ total m → m' ≡ m) (b m) (λ e. x.still m (p, e)) (λ _ _. refl);
        runs = λ m t p shows. ran m t p shows (b m) refl;
      }
    where
      grown : (m : List ℕ) → P m → (c : Bool) → b m ≡ c → length (cond c (calls m) []) + total m ≤ total (cond c (f m) m)
      grown m p true e = x.grows m (p, e)
      grown m p false e = omega arith

      ran : (m t : List ℕ) → P m → Shows n m t → (c : Bool) → b m ≡ c → Ran n s (cond c (f m) m) t (cond c (calls m) [])
      ran m t p shows true e = x.runs m t (p, e) shows
      ran m t p shows false e = ran-none m t shows

  pub steps-below :
      {P : List ℕ → Type 0} (k : ℕ) (f calls : ℕ → List ℕ → List ℕ)
      → ((i : ℕ) → i < k → Step n s P P (f i) (calls i))
      → Step n s P P (steps_below k f) (calls_below k f calls)
  unfolding steps_below calls_below
  steps-below {P} zero f calls each = step-none P
  steps-below (suc k) f calls each =
      step_then (steps-below k f calls (λ i l. each i (omega arith))) (each k (omega arith))

  -- where all together add nothing, each adds nothing
  pub each-still :
      {P : List ℕ → Type 0} (k : ℕ) (f calls : ℕ → List ℕ → List ℕ)
      → ((i : ℕ) → i < k → Step n s P P (f i) (calls i))
      → (m : List ℕ)
      → P m
      → total (steps_below k f m) ≤ total m
      → (i : ℕ)
      → i < k
      → f i m ≡ m
  unfolding steps_below
  each-still zero f calls each m p l i b = absurd (not-suc-le-zero b)
  each-still {P} (suc k) f calls each m p l i b =
      let before : (i : ℕ) → i < k → Step n s P P (f i) (calls i) = λ i b. each i (omega arith) in
      let whole = steps-below k f calls before in
      let last = each k (omega arith) in
      let less : total (steps_below k f m) ≤ total m = omega (arith, last.grows (steps_below k f m) (whole.keeps m p)) in
      let same : steps_below k f m ≡ m = whole.still m p less in
      ⊎_elim (each-still k f calls before m p less i)
      (λ e. rw e (last.still m p (subst (λ x. total (f k x) ≤ total m) same l)))
      (below-or-last k i b)
