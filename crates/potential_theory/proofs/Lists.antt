-- The computed list gives every potential right, and is no longer than a list may be (specs/Claims). So components bound what is
-- potential: the list ends within them like any other. Assumes nothing.
use mathlib.Core.Path.{◌≡◌, refl, sym, subst, ◌∙◌}
use mathlib.Core.Bool.{false≢true}
use mathlib.Core.Logic.{⊎_elim}
use mathlib.Core.List.{List, map}
use Prim.Native.Nat.{ℕ, ◌*◌, ◌≤◌}
use native.Mathlib.Nat.{mul-le-mul}
use native.Mathlib.Omega.{arith}
use lib.Dec.{eqb}
use lib.ListN.{length}
use Rattle.machine.specs.Right.{all_rights, has_any}
use Rattle.machine.specs.Table.{domains, rights}
use Rattle.machine.specs.Check.{Accepted}
use Rattle.machine.specs.Call.{Call.one, split}
use Rattle.machine.specs.Run as machine
use Rattle.machine.specs.Influence.{reaches, influences}
use Rattle.machine.proofs.Bools.{either, or_right}
use Rattle.machine.proofs.Right.{has-none}
use Rattle.machine.proofs.Accepted.{accepted-counts}
use Rattle.isolation_theory.proofs.Ran.{ran-accepted, ran-table}
use Rattle.isolation_theory.proofs.Component.{components-stay}
use Rattle.potential_theory.specs.Closure.{matrix_of, potential, potential_rights}
use Rattle.potential_theory.specs.Lists.{potential_list}
use Rattle.potential_theory.specs.Claims.{AllDoneBy, HasPotential, EveryPotentialListGivesAll, EveryPromisedRunGivesAll, EveryPotentialInComponent}
use Rattle.potential_theory.proofs.Matrix.{proper-most, matrix-cell}
use Rattle.potential_theory.proofs.Grant.{grants-alone, split-alone}
use Rattle.potential_theory.proofs.Steps.{Shows, Ran}
use Rattle.potential_theory.proofs.Exact.{start-within, potential-step}

module _ (t : List ℕ) (s : ℕ) (a : Accepted t) where
  abbrev n : ℕ
  n = domains t

  pub list-ran : Ran n s (potential t s) t (potential_list t s)
  unfolding potential potential_list
  list-ran =
      let shows : Shows n (matrix_of t) t =
      record { accepted = a; count = refl; same = λ h g lh lg. sym (matrix-cell t h g lh lg) } in
      (potential-step t s a).runs (matrix_of t) t (start-within t s a) shows

  list-cut : split (potential_list t s) ≡ map one (potential_list t s)
  list-cut = split-alone (potential_list t s) (grants-alone (potential_list t s) list-ran.grants)

  -- each call adds something to the sum of the cells, which is at most all_rights for each of sixteen times sixteen
  pub list-most : length (potential_list t s) ≤ n * n * all_rights
  unfolding potential potential_list
  list-most =
      let step = potential-step t s a in
      let within = start-within t s a in
      let most = proper-most n (potential t s) (step.keeps (matrix_of t) within).proper in
      omega (arith, step.grows (matrix_of t) within)

  list-few : length (potential_list t s) ≤ 4096
  list-few =
      let few = (accepted-counts t a).1 in
      let cells : n * n ≤ 16 * 16 = mul-le-mul few few in
      omega (arith, list-most)

  list_done : AllDoneBy s t (split (potential_list t s))
  list_done = rw list-cut list-ran.done

  list-gives : HasPotential t s (machine.run t (split (potential_list t s)))
  unfolding potential_rights
  list-gives h g lh lg = rw list-cut (list-ran.shows.same h g lh lg)

pub gives_all : EveryPotentialListGivesAll
gives_all t s a = record { few = list-few t s a; calls = list_done t s a; gives = list-gives t s a }

pub promised-run-gives-all : EveryPromisedRunGivesAll
promised-run-gives-all t s p =
    let ws = potential_list t s in
    subst (HasPotential t s) (sym (ran-table t ws p)) (list-gives t s (ran-accepted t ws p))

pub potential-in-component : EveryPotentialInComponent
unfolding influences reaches
potential-in-component t s h g a lh lg outside =
    let end = machine.run t (split (potential_list t s)) in
    let gives = list-gives t s a h g lh lg in
    ⊎_elim
    (λ some.
    let influence = or_right (eqb h g) (has_any (rights end h g)) (rw gives some) in
    absurd (false≢true (sym outside ∙ components-stay t (split (potential_list t s)) a h g lh lg influence)))
    (has-none (potential_rights t s h g))
    (either (has_any (potential_rights t s h g)))
