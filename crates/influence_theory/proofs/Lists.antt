-- The computed list makes all sources (specs/Claims: EveryInfluenceListMakesAll). Its grants give every potential right, and from
-- then on each round of asks adds what a round of the closure does. Assumes nothing.
use mathlib.Core.Path.{◌≡◌, refl, sym, ap, subst, ◌∙◌}
use mathlib.Core.Bool.{Bool, true}
use mathlib.Core.Logic.{⊎_elim}
use mathlib.Core.List.{List, [], ◌∷◌, ◌++◌, map, map-append}
use mathlib.Core.Option.{some-injective}
use Prim.Native.Nat.{ℕ, zero, suc, ◌*◌, ◌^◌, ◌<◌, ◌≤◌}
use native.Mathlib.Nat.{mul-le-mul}
use native.Mathlib.Omega.{arith}
use lib.ListN.{length, length-append, length-map}
use Rattle.machine.specs.Below.{numbers_below, has_bit}
use Rattle.machine.specs.Right.{has_any}
use Rattle.machine.specs.Table.{domains, rights}
use Rattle.machine.specs.Check.{Accepted}
use Rattle.machine.specs.Call.{Call, Call.one, split}
use Rattle.machine.specs.Machine.{step}
use Rattle.machine.specs.Run as machine
use Rattle.machine.specs.Influence.{reaches}
use Rattle.machine.specs.DomainSet.{member}
use Rattle.machine.specs.Purge.{sources}
use Rattle.unwinding.proofs.Unwinding.{member-first}
use Rattle.machine.proofs.Accepted.{accepted-counts}
use Rattle.machine.proofs.Below.{words-length}
use Rattle.reachability.specs.Closure.{rounds, closed}
use Rattle.reachability.specs.Chain.{link_words}
use Rattle.reachability.proofs.Bits.{bit-other}
use Rattle.reachability.proofs.Chain.{last-round, linked-words}
use Rattle.potential_theory.specs.Closure.{potential_rights}
use Rattle.potential_theory.specs.Lists.{potential_list}
use Rattle.potential_theory.specs.Claims.{KnownCallersIn, AllDoneBy}
use Rattle.potential_theory.proofs.Grant.{AllAlone, all-alone-append, grants-alone, split-alone}
use Rattle.potential_theory.proofs.Steps.{all-done-append}
use Rattle.potential_theory.proofs.Lists.{list-ran, list-most}
use Rattle.influence_theory.specs.Influence.{could_reach, could_influence}
use Rattle.influence_theory.specs.Lists.{ask_word, ask_round, ask_rounds, influence_list}
use Rattle.influence_theory.specs.Claims.{EveryInfluenceListMakesAll, EverySourceExactly}
use Rattle.influence_theory.proofs.Asks.{sources-stay, AllActors, asks-alone, asks-keep}
use Rattle.influence_theory.proofs.Asks.{asks-done, asks-stay, asks-join, all-actors, is-actor, actors-few}
use Rattle.influence_theory.proofs.Exact.{link-of, every-could-influence}
use Rattle.influence_theory.proofs.Sound.{source-could-influence}

-- calls that are done by domains of s are of known callers in s
pub done-known : (n s : ℕ) (t : List ℕ) (cs : List Call) → AllDoneBy s t cs → KnownCallersIn n s cs
done-known n s t [] all = tt
done-known n s t (c ∷ cs) all = (
  λ u by _. subst (λ v. has_bit s v ≡ true) (some-injective _ _ (sym all.0.called_by ∙ by)) all.0.acts,
  done-known n s (step t c) cs all.1,
)

-- as many words as numbers
words_count : (n : ℕ) (r : ℕ → ℕ → Bool) → length (link_words n r) ≡ n
unfolding link_words
words_count n r = words-length n _

-- ---- rounds of asks, on a table of n domains

module _ (x : List ℕ) (n s : ℕ) (e : domains x ≡ n) (few : n ≤ 16) where
  abbrev us : List ℕ
  us = numbers_below n (has_bit s)

  all : AllActors (domains x) s us
  all = subst (λ k. AllActors k s us) (sym e) (all-actors n s)

  few' : domains x ≤ 16
  few' = omega arith

  rounds-alone : (k : ℕ) → AllAlone (ask_rounds k n s)
  unfolding ask_rounds ask_round
  rounds-alone zero = tt
  rounds-alone (suc k) = all-alone-append (ask_round n s) (ask_rounds k n s) (asks-alone x s few' us all) (rounds-alone k)

  -- the calls of one round more
  more : (k : ℕ) → map one (ask_rounds (suc k) n s) ≡ map one (map ask_word us) ++ map one (ask_rounds k n s)
  unfolding ask_rounds ask_round
  more k = map-append one (ask_round n s) (ask_rounds k n s)

  rounds-done : (k : ℕ) → AllDoneBy s x (map one (ask_rounds k n s))
  unfolding ask_rounds
  rounds-done zero = tt
  rounds-done (suc k) =
      rw (more k)
      (all-done-append s x (map one (map ask_word us)) (map one (ask_rounds k n s)) (asks-done x s few' us all)
      (rw (asks-keep x s few' us all) (rounds-done k)))

  rounds-few : (k : ℕ) → length (ask_rounds k n s) ≤ k * n
  unfolding ask_rounds ask_round
  rounds-few zero = omega arith
  rounds-few (suc k) =
      omega
      (arith, length-append (ask_round n s) (ask_rounds k n s), length-map us ask_word, actors-few n s, rounds-few k)

  -- each round adds what a round of the closure does, where the table has the steps of the relation
  module _ (t : List ℕ) (m : domains t ≡ n) (has : (u v : ℕ) → u < n → v < n → rights x u v ≡ potential_rights t s u v) where
    rounds-join :
        (k d u : ℕ)
        → has_bit (rounds k (link_words (domains t) (could_reach t s)) (2 ^ d)) u ≡ true
        → member u (sources x (map one (ask_rounds k n s)) d) ≡ true
    unfolding rounds ask_rounds sources reaches
    rounds-join zero d u h = rw (bit-other d u h) (member-first d [])
    rounds-join (suc k) d u h =
        let ws = link_words (domains t) (could_reach t s) in
        let cs = map one (ask_rounds k n s) in
        rw (more k)
        (⊎_elim (λ before. asks-stay x s few' us cs d u all (rounds-join k d u before))
        (λ step.
        let v = step.0 in
        let l = link-of t s u v (sym (linked-words (domains t) (could_reach t s) u v) ∙ step.2) in
        let lu : u < n = subst (λ j. u < j) m l.from in
        let lv : v < n = subst (λ j. v < j) m l.to in
        asks-join x s few' us cs d u v all (is-actor n s u lu l.acts) (rounds-join k d v step.1)
        (ap has_any (has u v lu lv) ∙ l.some))
        (last-round ws k (2 ^ d) u h))

-- ---- the list

module _ (t : List ℕ) (s : ℕ) (a : Accepted t) where
  abbrev n : ℕ
  n = domains t

  -- the table after the grants, and what they did
  x : List ℕ
  x = machine.run t (map one (potential_list t s))

  count : domains x ≡ n
  unfolding x
  count = (list-ran t s a).shows.count

  few : n ≤ 16
  few = (accepted-counts t a).1

  calls : split (influence_list t s) ≡ map one (potential_list t s) ++ map one (ask_rounds n n s)
  unfolding influence_list
  calls =
      split-alone (potential_list t s ++ ask_rounds n n s)
      (all-alone-append (potential_list t s) (ask_rounds n n s) (grants-alone (potential_list t s) (list-ran t s a).grants)
      (rounds-alone x n s count few n))
      ∙ map-append one (potential_list t s) (ask_rounds n n s)

  -- the grants are at most all_rights for each of n times n, the asks one for each
  list-few : length (influence_list t s) ≤ 4096
  unfolding influence_list
  list-few =
      let cells : n * n ≤ 16 * 16 = mul-le-mul few few in
      omega (arith, length-append (potential_list t s) (ask_rounds n n s), list-most t s a, rounds-few x n s count few n)

  list_done : AllDoneBy s t (split (influence_list t s))
  unfolding x
  list_done =
      rw calls
      (all-done-append s t (map one (potential_list t s)) (map one (ask_rounds n n s)) (list-ran t s a).done (rounds-done x n s count few n))

  -- whoever could influence d is a source
  list-joins : (d u : ℕ) → has_bit (could_influence t s d) u ≡ true → member u (sources t (split (influence_list t s)) d) ≡ true
  unfolding could_influence closed x potential_rights
  list-joins d u h =
      let ws = link_words n (could_reach t s) in
      let all = subst (λ k. has_bit (rounds k ws (2 ^ d)) u ≡ true) (words_count n (could_reach t s)) h in
      rw calls
      (sources-stay t (map one (potential_list t s)) (map one (ask_rounds n n s)) d u
      (rounds-join x n s count few t refl (λ u v lu lv. (list-ran t s a).shows.same u v lu lv) n d u all))

pub makes-all : EveryInfluenceListMakesAll
makes-all t s a =
    record {
      few = list-few t s a;
      calls = list_done t s a;
      all =
          λ d u b. (
            λ m.
                let known = done-known (domains t) s t (split (influence_list t s)) (list_done t s a) in
                (every-could-influence t s d u a b).0 (source-could-influence t s (split (influence_list t s)) d u a known b m),
            λ c. list-joins t s a d u ((every-could-influence t s d u a b).1 c),
          );
    }

pub source-exactly : EverySourceExactly
source-exactly t s d u a b = (
  λ x. (every-could-influence t s d u a b).0 (source-could-influence t s x.0 d u a x.1 b x.2),
  λ c.
      let all = makes-all t s a in
      (split (influence_list t s), done-known (domains t) s t (split (influence_list t s)) all.calls, (all.all d u b).1 c),
)
