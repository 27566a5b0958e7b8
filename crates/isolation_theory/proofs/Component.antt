-- Components stay, and noninterference by component (specs/Component). A call gives a right only where its caller has rights on
-- the target and on the recipient, so all three are connected already: the laws of a single right say so (EachRight, GivenBy),
-- and no kind of call is looked at here. The rest is a case of the unwinding theorem. Assumes nothing.
use mathlib.Core.Path.{◌≡◌, refl, sym, ap, ap₂, subst, ◌∙◌}
use mathlib.Core.Bool.{Bool, true, false, cond, ◌&&◌, and_comm, or_comm}
use mathlib.Core.Logic.{⊎_elim}
use mathlib.Core.List.{List, [], ◌∷◌, ◌++◌}
use Prim.Native.Nat.{ℕ, ◌^◌, ◌<◌}
use native.Mathlib.Omega.{arith}
use borrow.Author.Tests.{ltb-true, lt-ltb, eqb-true}
use lib.Dec.{eqb, ltb}
use lib.Pow.{pow_pos}
use Rattle.machine.specs.Below.{has_bit}
use Rattle.machine.specs.Right.{holds}
use Rattle.machine.specs.Table.{domains, rights}
use Rattle.machine.specs.Check.{Accepted}
use Rattle.machine.specs.Call.{Call, caller_of, split}
use Rattle.machine.specs.Machine.{step}
use Rattle.machine.specs.Run as machine
use Rattle.machine.specs.Influence.{reaches, influences}
use Rattle.machine.specs.Trail.{GivenBy}
use Rattle.machine.specs.DomainSet.{from_group}
use Rattle.machine.specs.Purge.{view}
use Rattle.machine.specs.SameParts.{Agree}
use Rattle.unwinding.specs.Unwinding as unwinding
use Rattle.machine.proofs.Bools.{and_left, and_right, and_intro, or_cases}
use Rattle.machine.proofs.Right.{holds-bit, holds-any, any-nonzero}
use Rattle.machine.proofs.Step.{stays-accepted}
use Rattle.machine.proofs.Frame.{frame-refl}
use Rattle.machine.proofs.Trail.{each_right}
use Rattle.unwinding.proofs.Unwinding.{group-noninfluence}
use Rattle.machine.proofs.Purge.{tables, observed}
use Rattle.machine.proofs.Noninterference.{Alike, conditions, same_view}
use Rattle.reachability.specs.Chain.{Chain.end, Chain.link, among}
use Rattle.reachability.proofs.Bits.{some-bit, same_bits}
use Rattle.reachability.proofs.Chain.{chain-trans, relation-closed-exactly}
use Rattle.isolation_theory.specs.Component.{joined, component, Connected, EveryComponent, EveryComponentShared, ComponentsStay, ComponentsWithin, calls_from, component_calls}
use Rattle.isolation_theory.specs.Component.{EveryRunComponentsStay, EveryRunComponentsWithin, EveryRunComponentNoninterference}
use Rattle.isolation_theory.specs.Component.{EveryPromisedRunComponentsStay, EveryPromisedRunComponentsWithin, EveryPromisedRunComponentNoninterference, EveryComponentOfDomains}
use Rattle.isolation_theory.proofs.Ran.{ran-accepted, ran-table, ran-answers}

pub every-component : EveryComponent
unfolding component
every-component t d v = relation-closed-exactly (domains t) (joined t) d v

-- ---- what is connected, in any table

module _ (t : List ℕ) where
  -- a right joins two domains
  join : (u v : ℕ) → u < domains t → v < domains t → joined t u v ≡ true → among (domains t) (joined t) u v ≡ true
  unfolding among
  join u v lu lv j = and_intro (and_intro (lt-ltb u _ lu) (lt-ltb v _ lv)) j

  right-joins : (u v : ℕ) → u < domains t → v < domains t → reaches t u v ≡ true → Connected t v u
  unfolding joined
  right-joins u v lu lv r = link (join u v lu lv (rw r)) end

  -- joins go both ways, so connections do
  turned : (u v : ℕ) → among (domains t) (joined t) u v ≡ true → among (domains t) (joined t) v u ≡ true
  unfolding among joined
  turned u v h =
      ap₂ ◌&&◌ (and_comm (ltb v (domains t)) (ltb u (domains t))) (or_comm (reaches t v u) (reaches t u v)) ∙ h

  pub connected-back : {u v : ℕ} → Connected t u v → Connected t v u
  connected-back end = end
  connected-back (link {u = a} {v = b} l c) = chain-trans (link (turned a b l) end) (connected-back c)

  -- a chain to a domain is one of domains
  connected-below : {d u : ℕ} → d < domains t → Connected t d u → u < domains t
  unfolding among
  connected-below b end = b
  connected-below b (link {u = a} {v = v} l c) =
      ltb-true _ _ (and_left (ltb a (domains t)) _ (and_left (ltb a (domains t) && ltb v (domains t)) (joined t a v) l))

-- two tests that hold where the other does are the same
both_ways : (a b : Bool) → (a ≡ true → b ≡ true) → (b ≡ true → a ≡ true) → a ≡ b
both_ways true b f g = sym (f refl)
both_ways false true f g = g refl
both_ways false false f g = refl

pub component-shared : EveryComponentShared
component-shared t d v h =
    let between = (every-component t d v).0 h in
    same_bits (component t v) (component t d)
    (λ k.
    both_ways (has_bit (component t v) k) (has_bit (component t d) k)
    (λ x. (every-component t d k).1 (chain-trans between ((every-component t v k).0 x)))
    (λ x. (every-component t v k).1 (chain-trans (connected-back t between) ((every-component t d k).0 x))))

-- ---- one call

-- some right is a single right
reaches-right : (s : List ℕ) (h g : ℕ) → reaches s h g ≡ true → (k : ℕ) × (holds (rights s h g) (2 ^ k) ≡ true)
unfolding reaches has_bit
reaches-right s h g r =
    let (k, b) = some-bit (rights s h g) (any-nonzero (rights s h g) r) in
    (k, holds-bit (rights s h g) k ∙ b)

right-reaches : (s : List ℕ) (h g k : ℕ) → holds (rights s h g) (2 ^ k) ≡ true → reaches s h g ≡ true
unfolding reaches
right-reaches s h g k b = holds-any (rights s h g) (2 ^ k) (λ e. omega (arith, pow_pos k)) b

-- A table that results from t: accepted, with as many domains, and all its rights lie within components of t.
record Within (t s : List ℕ) : Type 0 where
  pub accepted : Accepted s
  pub count : domains s ≡ domains t
  pub right : (h g : ℕ) → h < domains t → g < domains t → reaches s h g ≡ true → Connected t g h

module _ (t s : List ℕ) (w : Within t s) where
  -- whoever influences a domain is connected with it
  influence-within : (u v : ℕ) → u < domains t → v < domains t → influences s u v ≡ true → Connected t v u
  unfolding influences
  influence-within u v lu lv i =
      ⊎_elim (λ e. subst (Connected t v) (sym (eqb-true u v e)) end) (w.right u v lu lv)
      (or_cases (eqb u v) (reaches s u v) i)

  -- the giver holds the right on the target and influences the recipient
  given-within :
      (c : Call) (h g k : ℕ) → h < domains t → g < domains t → GivenBy h g (2 ^ k) s c → Connected t g h
  given-within c h g k lh lg x =
      let lu : x.caller < domains t = subst (λ n. x.caller < n) w.count x.below in
      chain-trans (w.right x.caller g lu lg (right-reaches s x.caller g k x.held))
      (connected-back t (influence-within x.caller h lu lh x.toward))

  step-within : (c : Call) → Within t (step s c)
  step-within c =
      let stays = stays-accepted s c w.accepted in
      record {
        accepted = stays.accepted;
        count = stays.frame.same_domains ∙ w.count;
        right =
            λ h g lh lg r.
            let (k, now) = reaches-right (step s c) h g r in
            let lh' : h < domains s = subst (λ n. h < n) (sym w.count) lh in
            let lg' : g < domains s = subst (λ n. g < n) (sym w.count) lg in
            ⊎_elim (λ had. w.right h g lh lg (right-reaches s h g k had)) (given-within c h g k lh lg)
            ((each_right s c w.accepted h g k lh' lg').had_or_given now);
      }

start-within : (t : List ℕ) → Accepted t → Within t t
start-within t a = record { accepted = a; count = refl; right = λ h g lh lg r. right-joins t h g lh lg r }

run-within : (t s : List ℕ) (cs : List Call) → Within t s → Within t (machine.run s cs)
unfolding machine.run
run-within t s [] w = w
run-within t s (c ∷ cs) w = run-within t (step s c) cs (step-within t s w c)

-- ---- components stay

pub components-stay : EveryRunComponentsStay
components-stay t cs a u v lu lv i =
    let w = run-within t t cs (start-within t a) in
    (every-component t u v).1 (connected-back t (influence-within t (machine.run t cs) w u v lu lv i))

pub promised-components-stay : EveryPromisedRunComponentsStay
promised-components-stay t ws p =
    subst (ComponentsStay t) (sym (ran-table t ws p)) (components-stay t (split ws) (ran-accepted t ws p))

-- ---- components lie within those of the start

module _ (t s : List ℕ) (w : Within t s) where
  -- a join at the end connects at the start
  join-within : (a b : ℕ) → among (domains s) (joined s) a b ≡ true → Connected t b a
  unfolding among joined
  join-within a b l =
      let both = and_left (ltb a (domains s) && ltb b (domains s)) _ l in
      let la : a < domains t = subst (λ n. a < n) w.count (ltb-true _ _ (and_left (ltb a (domains s)) _ both)) in
      let lb : b < domains t = subst (λ n. b < n) w.count (ltb-true _ _ (and_right (ltb a (domains s)) _ both)) in
      ⊎_elim (λ r. w.right a b la lb r) (λ r. connected-back t (w.right b a lb la r))
      (or_cases (reaches s a b) (reaches s b a) (and_right (ltb a (domains s) && ltb b (domains s)) _ l))

  connected-within : {d v : ℕ} → Connected s d v → Connected t d v
  connected-within end = end
  connected-within (link {u = a} {v = b} l c) = chain-trans (connected-within c) (join-within a b l)

pub components-within : EveryRunComponentsWithin
components-within t cs a d v b h =
    let w = run-within t t cs (start-within t a) in
    (every-component t d v).1 (connected-within t (machine.run t cs) w ((every-component (machine.run t cs) d v).0 h))

pub promised-components-within : EveryPromisedRunComponentsWithin
promised-components-within t ws p =
    subst (ComponentsWithin t) (sym (ran-table t ws p)) (components-within t (split ws) (ran-accepted t ws p))

pub component-of-domains : EveryComponentOfDomains
component-of-domains t d u b h = connected-below t b ((every-component t d u).0 h)

-- ---- noninterference by component

module _ (t : List ℕ) (d : ℕ) (b : d < domains t) where
  -- along a run, a caller that reaches a member is a member
  closed-along :
      (s : List ℕ) (cs : List Call)
      → Within t s
      → unwinding.Closed (tables (domains t)) (λ v. has_bit (component t d) v ≡ true) s cs
  closed-along s [] w = tt
  closed-along s (c ∷ cs) w = (λ u v _ r m. joins u v r m, closed-along (step s c) cs (step-within t s w c))
    where
      joins :
          (u v : ℕ)
          → (ltb u (domains s) && reaches s u v) ≡ true
          → has_bit (component t d) v ≡ true
          → has_bit (component t d) u ≡ true
      joins u v r m =
          let lu : u < domains t = subst (λ n. u < n) w.count (ltb-true _ _ (and_left (ltb u (domains s)) _ r)) in
          let right = w.right u v lu (component-of-domains t d v b m) (and_right (ltb u (domains s)) _ r) in
          (every-component t d u).1 (chain-trans ((every-component t d v).0 m) right)

-- the calls from a set are those of the generic theory
calls-from : (n set : ℕ) (cs : List Call) → unwinding.group_calls (tables n) (has_bit set) cs ≡ calls_from set cs
unfolding unwinding.group_calls calls_from
calls-from n set [] = refl
calls-from n set (c ∷ cs) =
    ap (λ rest. cond (from_group (has_bit set) (caller_of c)) (c ∷ rest) rest) (calls-from n set cs)

-- noninterference by any set that has d, and that no caller from outside reaches along the run
pub set-noninterference :
    (t : List ℕ) (cs : List Call) (rest : List ℕ) (d set : ℕ)
    → Accepted t
    → d < domains t
    → has_bit set d ≡ true
    → unwinding.Closed (tables (domains t)) (λ v. has_bit set v ≡ true) t cs
    → view d cs (machine.answers t cs ++ rest) (machine.run t cs)
    ≡ view d (calls_from set cs) (machine.answers t (calls_from set cs)) (machine.run t (calls_from set cs))
set-noninterference t cs rest d set a b own closed =
    let n = domains t in
    let self : Alike n t t = record { first = a; second = a; frame = frame-refl t; count = refl } in
    let alike : unwinding.SameForSources (tables n) (Alike n) Agree d t cs t = record { domain = b; proper = self; each = λ v m. (conditions n).same_refl self } in
    let seen = observed (group-noninfluence (conditions n) (has_bit set) d t t cs alike own closed) in
    subst
    (λ ks. view d cs (machine.answers t cs ++ rest) (machine.run t cs) ≡ view d ks (machine.answers t ks) (machine.run t ks))
    (calls-from n set cs)
    (same_view seen.proper seen.state cs _ (machine.answers t cs ++ rest) _ (seen.answered rest))

pub component-noninterference : EveryRunComponentNoninterference
unfolding component_calls
component-noninterference t cs rest a d b =
    set-noninterference t cs rest d (component t d) a b ((every-component t d d).1 end) (closed-along t d b t cs (start-within t a))

pub promised-component-noninterference : EveryPromisedRunComponentNoninterference
promised-component-noninterference t ws p =
    rw (ran-answers t ws p, ran-table t ws p) (component-noninterference t (split ws) _ (ran-accepted t ws p))
