-- The closure is made of steps (proofs/Steps), a round that adds nothing leaves a closed matrix, and as many rounds as are made
-- are enough. R is any relation that holds of all rights at the start and of what is granted among them. Assumes nothing.
use mathlib.Core.Path.{◌≡◌, sym, ap, ◌∙◌}
use mathlib.Core.Bool.{Bool, true, cond}
use mathlib.Core.Logic.{⊎_elim}
use mathlib.Core.List.{List}
use Prim.Native.Nat.{ℕ, zero, suc, ◌+◌, ◌*◌, ◌<◌, ◌≤◌}
use native.Mathlib.Nat.{le_of_eq}
use native.Mathlib.Omega.{arith}
use borrow.Author.Tests.{ltb-true, ltb-false}
use lib.Dec.{ltb}
use Rattle.machine.specs.Below.{has_bit}
use Rattle.machine.specs.Right.{GRANT, all_rights, holds, adds, has_any}
use Rattle.machine.proofs.Bools.{either}
use Rattle.potential_theory.specs.Closure.{cell, granted_on, granted_to, granted_by, round, total, settled}
use Rattle.potential_theory.specs.Lists.{calls_on, calls_to, calls_by, round_calls, settled_calls}
use Rattle.potential_theory.proofs.Matrix.{cell_set, proper-most}
use Rattle.potential_theory.proofs.Steps.{Step, step-none, step-as, step_then, step-if, steps-below, each-still}
use Rattle.potential_theory.proofs.Granted.{ClosedUnderGrants, Within, Acts, Reaches, granted-step}

-- Nobody that acts can grant anything new.
unfoldable pub Closed : ℕ → ℕ → List ℕ → Type 0
Closed n s m =
    (u h g : ℕ)
    → u < n
    → h < n
    → g < n
    → has_bit s u ≡ true
    → has_any (cell n m u h) ≡ true
    → holds (cell n m u g) GRANT ≡ true
    → adds (cell n m h g) (cell n m u g) ≡ cell n m h g

-- what is left as it is under a test that holds
under : {b : Bool} {x m : List ℕ} → b ≡ true → cond b x m ≡ m → x ≡ m
under {b} e same = rw e at same

module _ (n s : ℕ) (R : ℕ → ℕ → ℕ → Type 0) (closed : ClosedUnderGrants s R) where
  -- ---- steps

  on_step : (u h g : ℕ) → u < n → h < n → g < n → Step n s (Reaches n s R u h) (Reaches n s R u h) (granted_on n u h g) (calls_on n u h g)
  unfolding granted_on calls_on
  on_step u h g lu lh lg = step-if n s _ (granted-step n s R closed u h g lu lh lg)

  to_step : (u h : ℕ) → u < n → h < n → Step n s (Acts n s R u) (Acts n s R u) (granted_to n u h) (calls_to n u h)
  unfolding granted_to calls_to
  to_step u h lu lh =
      step-if n s _
      (step-as n s (λ m p. p) (λ m p. p.0) (steps-below n s n (granted_on n u h) (calls_on n u h) (λ g lg. on_step u h g lu lh lg)))

  by-step : (u : ℕ) → u < n → Step n s (Within n R) (Within n R) (granted_by n s u) (calls_by n s u)
  unfolding granted_by calls_by
  by-step u lu =
      step-if n s _
      (step-as n s (λ m p. p) (λ m p. p.0) (steps-below n s n (granted_to n u) (calls_to n u) (λ h lh. to_step u h lu lh)))

  pub round-step : Step n s (Within n R) (Within n R) (round n s) (round_calls n s)
  unfolding round round_calls
  round-step = steps-below n s n (granted_by n s) (calls_by n s) by-step

  pub settled-step : (k : ℕ) → Step n s (Within n R) (Within n R) (settled k n s) (settled_calls k n s)
  unfolding settled settled_calls
  settled-step zero = step-none n s (Within n R)
  settled-step (suc k) =
      step-if n s (λ m. ltb (total m) (total (round n s m)))
      (step-as n s (λ m p. p.0) (λ m p. p) (step_then n s round-step (settled-step k)))

  -- ---- closed

  round-closed : (m : List ℕ) → Within n R m → total (round n s m) ≤ total m → Closed n s m
  unfolding Closed round granted_by granted_to granted_on
  round-closed m w l u h g lu lh lg acts reaches may =
      let by = under acts (each-still n s n (granted_by n s) (calls_by n s) by-step m w l u lu) in
      let each = each-still n s n (granted_to n u) (calls_to n u) (λ h lh. to_step u h lu lh) m (w, acts) (le_of_eq (ap total by)) h lh in
      let to = under reaches each in
      let all = each-still n s n (granted_on n u h) (calls_on n u h) (λ g lg. on_step u h g lu lh lg) m ((w, acts), reaches) (le_of_eq (ap total to)) g lg in
      let on = under may all in
      sym (cell_set n m w.proper.size h g lh lg (adds (cell n m h g) (cell n m u g))) ∙ ap (λ x. cell n x h g) on

  -- each round that adds something leaves less room, so this count of rounds is enough
  pub settled-closed : (k : ℕ) (m : List ℕ) → Within n R m → n * n * all_rights < k + total m → Closed n s (settled k n s m)
  unfolding settled
  settled-closed zero m w l = absurd (omega (arith, proper-most n m w.proper))
  settled-closed (suc k) m w l =
      let next = round n s m in
      ⊎_elim
      (λ more. rw more (settled-closed k next (round-step.keeps m w) (omega (arith, ltb-true (total m) (total next) more))))
      (λ none. rw none (round-closed m w (ltb-false _ _ none)))
      (either (ltb (total m) (total next)))
