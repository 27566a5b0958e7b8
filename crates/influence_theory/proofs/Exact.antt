-- The computed set is exactly those that could influence d (specs/Claims: EveryCouldInfluence): a step is one of the relation that
-- is closed, and the computed rights are the potential ones. So it lies within the component of d. Assumes nothing.
use mathlib.Core.Path.{◌≡◌, sym, ap, ◌∙◌}
use mathlib.Core.Bool.{true, false≢true, ◌&&◌}
use mathlib.Core.Logic.{⊎_elim}
use mathlib.Core.List.{List}
use Prim.Native.Nat.{ℕ, ◌<◌}
use borrow.Author.Tests.{ltb-true, lt-ltb}
use lib.Dec.{ltb}
use Rattle.machine.specs.Below.{has_bit}
use Rattle.machine.specs.Right.{has_any}
use Rattle.machine.specs.Table.{domains}
use Rattle.machine.specs.Check.{Accepted}
use Rattle.machine.proofs.Bools.{and_left, and_right, and_intro, either}
use Rattle.machine.proofs.Right.{none-held}
use Rattle.reachability.specs.Chain.{Chain, Chain.end, Chain.link, among}
use Rattle.reachability.proofs.Chain.{chain-trans, relation-closed-exactly}
use Rattle.isolation_theory.specs.Component.{component, Connected}
use Rattle.isolation_theory.proofs.Component.{every-component, connected-back}
use Rattle.potential_theory.specs.Closure.{potential_rights}
use Rattle.potential_theory.proofs.Sets.{some_right, right-any}
use Rattle.potential_theory.proofs.Exact.{every-potential-right, potential-below}
use Rattle.potential_theory.proofs.Lists.{potential-in-component}
use Rattle.influence_theory.specs.Influence.{CouldInfluence, CouldInfluence.itself}
use Rattle.influence_theory.specs.Influence.{CouldInfluence.through, could_reach, could_influence}
use Rattle.influence_theory.specs.Claims.{EveryCouldInfluence, EveryInfluenceOfDomains, EveryInfluenceInComponent}

module _ (t : List ℕ) (s : ℕ) where
  abbrev n : ℕ
  n = domains t

  -- a step is between domains, of one that acts and has some computed right
  pub record Link (u v : ℕ) : Type 0 where
    pub from : u < n
    pub to : v < n
    pub acts : has_bit s u ≡ true
    pub some : has_any (potential_rights t s u v) ≡ true

  pub link-of : (u v : ℕ) → among n (could_reach t s) u v ≡ true → Link u v
  unfolding among could_reach
  link-of u v l =
      let below = and_left (ltb u n && ltb v n) _ l in
      let reach = and_right (ltb u n && ltb v n) _ l in
      record {
        from = ltb-true u n (and_left (ltb u n) _ below);
        to = ltb-true v n (and_right (ltb u n) _ below);
        acts = and_left (has_bit s u) _ reach;
        some = and_right (has_bit s u) _ reach;
      }

  of-link : (u v : ℕ) → Link u v → among n (could_reach t s) u v ≡ true
  unfolding among could_reach
  of-link u v l =
      and_intro (and_intro (lt-ltb u n l.from) (lt-ltb v n l.to)) (and_intro l.acts l.some)

  module _ (a : Accepted t) where
    could-of : {d u : ℕ} → Chain (among n (could_reach t s)) d u → CouldInfluence t s d u
    could-of end = itself
    could-of (link {u = u} {v = v} l c) =
        let x = link-of u v l in
        let (k, has) = some_right (potential_rights t s u v) x.some in
        through x.acts ((every-potential-right t s a u v k x.from x.to).0 has) (could-of c)

    of-could : {d u : ℕ} → CouldInfluence t s d u → Chain (among n (could_reach t s)) d u
    of-could itself = end
    of-could (through {u = u} {v = v} {k = k} acts p c) =
        let (lu, lv) = potential-below t s p in
        let has = (every-potential-right t s a u v k lu lv).1 p in
        link (of-link u v (record { from = lu; to = lv; acts = acts; some = right-any _ k has })) (of-could c)

pub every-could-influence : EveryCouldInfluence
unfolding could_influence
every-could-influence t s d u a b =
    let exactly = relation-closed-exactly (domains t) (could_reach t s) d u in
    (λ h. could-of t s a (exactly.0 h), λ c. exactly.1 (of-could t s a c))

-- ---- domains

below : (t : List ℕ) (s d u : ℕ) → d < domains t → Chain (among (domains t) (could_reach t s)) d u → u < domains t
below t s d u b end = b
below t s d u b (link {u = u'} {v = v} l c) = (link-of t s u' v l).from

pub influence-of-domains : EveryInfluenceOfDomains
unfolding could_influence
influence-of-domains t s d u b h = below t s d u b ((relation-closed-exactly (domains t) (could_reach t s) d u).0 h)

-- ---- components

-- a potential right connects
potential-connects : (t : List ℕ) (s : ℕ) → Accepted t → (u v : ℕ) → Link t s u v → Connected t v u
potential-connects t s a u v l =
    ⊎_elim (λ h. connected-back t ((every-component t u v).0 h))
    (λ outside.
    let none = potential-in-component t s u v a l.from l.to outside in
    absurd (false≢true (sym (ap has_any none ∙ none-held) ∙ l.some)))
    (either (has_bit (component t u) v))

chain-connects :
    (t : List ℕ) (s : ℕ) → Accepted t → {d u : ℕ} → Chain (among (domains t) (could_reach t s)) d u → Connected t d u
chain-connects t s a end = end
chain-connects t s a (link {u = u} {v = v} l c) =
    chain-trans (chain-connects t s a c) (potential-connects t s a u v (link-of t s u v l))

pub influence-in-component : EveryInfluenceInComponent
unfolding could_influence
influence-in-component t s d u a b h =
    (every-component t d u).1 (chain-connects t s a ((relation-closed-exactly (domains t) (could_reach t s) d u).0 h))
