-- No list gives more than is potential (specs/Claims). The caller of a call that gives a right had it, with GRANT and a right on
-- the recipient: the laws of a single right say so (EachRight, GivenBy), and no kind of call is looked at here. Assumes nothing.
use mathlib.Core.Path.{◌≡◌, refl, sym, subst, ◌∙◌}
use mathlib.Core.Bool.{true}
use mathlib.Core.Logic.{⊎_elim}
use mathlib.Core.List.{List, [], ◌∷◌}
use mathlib.Core.Option.{some}
use Prim.Native.Nat.{ℕ, ◌^◌, ◌<◌}
use borrow.Author.Tests.{eqb-true}
use lib.Dec.{eqb}
use Rattle.machine.specs.Below.{has_bit}
use Rattle.machine.specs.Right.{holds}
use Rattle.machine.specs.Table.{domains, rights}
use Rattle.machine.specs.Check.{Accepted}
use Rattle.machine.specs.Call.{Call, caller_of, split}
use Rattle.machine.specs.Machine.{step}
use Rattle.machine.specs.Run as machine
use Rattle.machine.specs.Influence.{reaches, influences}
use Rattle.machine.specs.Trail.{GivenBy}
use Rattle.machine.proofs.Bools.{or_cases}
use Rattle.machine.proofs.Below.{bits_at}
use Rattle.machine.proofs.Step.{stays-accepted}
use Rattle.machine.proofs.Trail.{each_right}
use Rattle.isolation_theory.proofs.Ran.{ran-accepted, ran-table}
use Rattle.potential_theory.specs.Potential.{Potential, Potential.held, Potential.given}
use Rattle.potential_theory.specs.Claims.{KnownCallersIn, WithinPotential, everyone}
use Rattle.potential_theory.specs.Claims.{EveryRunWithinPotential, EveryPromisedRunWithinPotential, EveryRunWithinEveryone, EveryPromisedRunWithinEveryone, EveryRunNothingNew}
use Rattle.potential_theory.proofs.Sets.{some_right}
use Rattle.potential_theory.proofs.Exact.{every-potential-right}

-- A table that results from t: accepted, with as many domains, and all its rights are potential in t.
pub record Came (t : List ℕ) (s : ℕ) (x : List ℕ) : Type 0 where
  pub accepted : Accepted x
  pub count : domains x ≡ domains t
  pub only : (h g k : ℕ) → h < domains t → g < domains t → holds (rights x h g) (2 ^ k) ≡ true → Potential t s h g k

-- ---- one call

module _ (t : List ℕ) (s : ℕ) (x : List ℕ) (w : Came t s x) (c : Call)
    (known : (u : ℕ) → caller_of c ≡ some u → u < domains t → has_bit s u ≡ true) where
  -- what is given was potential for its giver, and so is it for the recipient
  given-only : (h g k : ℕ) → h < domains t → g < domains t → GivenBy h g (2 ^ k) x c → Potential t s h g k
  unfolding influences reaches
  given-only h g k lh lg by =
      let u = by.caller in
      let lu : u < domains t = subst (λ n. u < n) w.count by.below in
      let has = w.only u g k lu lg by.held in
      ⊎_elim (λ self. subst (λ v. Potential t s v g k) (eqb-true u h self) has)
      (λ reach.
      let (j, right) = some_right (rights x u h) reach in
      given (known u by.called_by lu) (w.only u g 1 lu lg by.may_grant) (w.only u h j lu lh right) has)
      (or_cases (eqb u h) (reaches x u h) by.toward)

  pub step-came : Came t s (step x c)
  step-came =
      let stays = stays-accepted x c w.accepted in
      record {
        accepted = stays.accepted;
        count = stays.frame.same_domains ∙ w.count;
        only =
            λ h g k lh lg now.
            let lh' : h < domains x = subst (λ n. h < n) (sym w.count) lh in
            let lg' : g < domains x = subst (λ n. g < n) (sym w.count) lg in
            ⊎_elim (w.only h g k lh lg) (given-only h g k lh lg)
            ((each_right x c w.accepted h g k lh' lg').had_or_given now);
      }

-- ---- any calls, however many

pub start-came : (t : List ℕ) (s : ℕ) → Accepted t → Came t s t
start-came t s a = record { accepted = a; count = refl; only = λ h g k lh lg has. held lh lg has }

pub run-came : (t : List ℕ) (s : ℕ) (x : List ℕ) (cs : List Call) → Came t s x → KnownCallersIn (domains t) s cs → Came t s (machine.run x cs)
unfolding machine.run
run-came t s x [] w known = w
run-came t s x (c ∷ cs) w known = run-came t s (step x c) cs (step-came t s x w c known.0) known.1

pub run-within : EveryRunWithinPotential
run-within t s cs a known h g k lh lg has =
    (every-potential-right t s a h g k lh lg).1 ((run-came t s t cs (start-came t s a) known).only h g k lh lg has)

pub promised-run-within : EveryPromisedRunWithinPotential
promised-run-within t ws p s known =
    subst (WithinPotential t s) (sym (ran-table t ws p)) (run-within t s (split ws) (ran-accepted t ws p) known)

-- every known caller is a domain
pub everyone-known : (t : List ℕ) (cs : List Call) → KnownCallersIn (domains t) (everyone t) cs
unfolding everyone
everyone-known t [] = tt
everyone-known t (c ∷ cs) = (λ u _ lu. bits_at (domains t) (λ _. true) u lu, everyone-known t cs)

pub run-within-everyone : EveryRunWithinEveryone
run-within-everyone t cs a = run-within t (everyone t) cs a (everyone-known t cs)

pub promised-run-within-everyone : EveryPromisedRunWithinEveryone
promised-run-within-everyone t ws p = promised-run-within t ws p (everyone t) (everyone-known t (split ws))

-- ---- what is potential afterwards

pub came-back : (t : List ℕ) (s : ℕ) (x : List ℕ) → Came t s x → {h g k : ℕ} → Potential x s h g k → Potential t s h g k
came-back t s x w (held {h} {g} {k} lh lg has) =
    w.only h g k (subst (λ n. h < n) w.count lh) (subst (λ n. g < n) w.count lg) has
came-back t s x w (given acts may reach has) =
    given acts (came-back t s x w may) (came-back t s x w reach) (came-back t s x w has)

pub nothing-new : EveryRunNothingNew
nothing-new t s cs a known h g k = came-back t s (machine.run t cs) (run-came t s t cs (start-came t s a) known)
