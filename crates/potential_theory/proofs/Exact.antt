-- The computed rights are exactly the potential ones (specs/Claims: EveryPotentialRight): all that the closure adds is potential, and
-- a closed matrix has all that is. Assumes nothing.
use mathlib.Core.Path.{◌≡◌, ◌∙◌}
use mathlib.Core.Bool.{true}
use mathlib.Core.List.{List}
use Prim.Native.Nat.{ℕ, ◌^◌, ◌<◌}
use native.Mathlib.Omega.{arith}
use Rattle.machine.specs.Right.{holds}
use Rattle.machine.specs.Table.{domains}
use Rattle.machine.specs.Check.{Accepted}
use Rattle.machine.proofs.Bools.{or_right}
use Rattle.machine.proofs.Right.{holds-adds}
use Rattle.potential_theory.specs.Potential.{Potential, Potential.held, Potential.given}
use Rattle.potential_theory.specs.Closure.{cell, matrix_of, settled, enough, potential, potential_rights}
use Rattle.potential_theory.specs.Lists.{settled_calls}
use Rattle.potential_theory.specs.Claims.{EveryPotentialRight}
use Rattle.potential_theory.proofs.Sets.{right-any}
use Rattle.potential_theory.proofs.Matrix.{Contains, matrix-cell, matrix-proper}
use Rattle.potential_theory.proofs.Steps.{Step}
use Rattle.potential_theory.proofs.Granted.{ClosedUnderGrants, Within}
use Rattle.potential_theory.proofs.Closure.{Closed, settled-step, settled-closed}

module _ (t : List ℕ) (s : ℕ) where
  abbrev n : ℕ
  n = domains t

  pub potential-below : {h g k : ℕ} → Potential t s h g k → (h < n) × (g < n)
  potential-below (held lh lg has) = (lh, lg)
  potential-below (given acts may reaches has) = ((potential-below reaches).1, (potential-below may).1)

  -- a closed matrix with the table's rights has every potential right
  closed_all :
      (m : List ℕ)
      → Closed n s m
      → Contains n (matrix_of t) m
      → {h g k : ℕ}
      → Potential t s h g k
      → holds (cell n m h g) (2 ^ k) ≡ true
  unfolding Closed
  closed_all m closed more (held {h} {g} {k} lh lg has) =
      more h g k lh lg (rw (matrix-cell t h g lh lg) has)
  closed_all m closed more (given {u} {h} {g} {j} {k} acts may reaches has) =
      let (lu, lg) = potential-below may in
      let lh = (potential-below reaches).1 in
      let same = closed u h g lu lh lg acts (right-any _ j (closed_all m closed more reaches)) (closed_all m closed more may) in
      rw (← same)
      (holds-adds (cell n m h g) (cell n m u g) k ∙ or_right (holds (cell n m h g) (2 ^ k)) _ (closed_all m closed more has))

  closed-under : ClosedUnderGrants s (Potential t s)
  closed-under u h g j k = given

  module _ (a : Accepted t) where
    pub start-within : Within n (Potential t s) (matrix_of t)
    start-within =
        record {
          proper = matrix-proper t a;
          only = λ h g k lh lg has. held lh lg (rw (matrix-cell t h g lh lg) at has);
        }

    pub potential-step : Step n s (Within n (Potential t s)) (Within n (Potential t s)) (settled (enough n) n s) (settled_calls (enough n) n s)
    potential-step = settled-step n s (Potential t s) closed-under (enough n)

    potential-closed : Closed n s (potential t s)
    unfolding potential
    potential-closed = settled-closed n s (Potential t s) closed-under (enough n) (matrix_of t) start-within (omega arith)

pub every-potential-right : EveryPotentialRight
unfolding potential potential_rights
every-potential-right t s a h g k lh lg =
    let within = start-within t s a in
    let step = potential-step t s a in
    ((step.keeps (matrix_of t) within).only h g k lh lg, closed_all t s (potential t s) (potential-closed t s a) (step.more (matrix_of t) within))
