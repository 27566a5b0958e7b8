-- Two lines that agree on those that could influence a domain (specs/Claims). Each source of d, over any calls by domains of s, is
-- one of them, so the isolation rule applies to any list. Applied to the computed lists of both tables it says that both sets are
-- the same. Assumes nothing.
use mathlib.Core.Path.{◌≡◌, refl, sym, subst}
use mathlib.Core.Bool.{Bool, true, false, false≢true}
use mathlib.Core.List.{List}
use Prim.Native.Nat.{ℕ, ◌<◌}
use Rattle.machine.specs.Below.{has_bit}
use Rattle.machine.specs.Table.{domains}
use Rattle.machine.specs.Call.{Call, split}
use Rattle.machine.specs.DomainSet.{member}
use Rattle.machine.specs.Purge.{sources}
use Rattle.reachability.proofs.Bits.{same_bits}
use Rattle.isolation_theory.specs.TwoLines.{TwoLines, AgreeOnSources}
use Rattle.isolation_theory.proofs.TwoLines.{between-lines, between-runs}
use Rattle.potential_theory.specs.Claims.{KnownCallersIn}
use Rattle.influence_theory.specs.Influence.{could_influence}
use Rattle.influence_theory.specs.Lists.{influence_list}
use Rattle.influence_theory.specs.Claims.{AgreeOnInfluence, EveryLinesSameInfluence, EveryLinesInfluence, EveryRunsInfluence}
use Rattle.influence_theory.proofs.Exact.{every-could-influence}
use Rattle.influence_theory.proofs.Sound.{source-could-influence}
use Rattle.influence_theory.proofs.Lists.{done-known, makes-all}

-- two tests that hold together
same_test : (a b : Bool) → (a ≡ true → b ≡ true) → (b ≡ true → a ≡ true) → a ≡ b
same_test true b f g = sym (f refl)
same_test false true f g = absurd (false≢true (g refl))
same_test false false f g = refl

module _ (t r : List ℕ) (s d : ℕ) (l : TwoLines t r) (b : d < domains t) (agree : AgreeOnInfluence s d t r) where
  agree-sources : (cs : List Call) → KnownCallersIn (domains t) s cs → AgreeOnSources d cs t r
  agree-sources cs known v m = agree v (source-could-influence t s cs d v l.first known b m)

  same-sources : (cs : List Call) → KnownCallersIn (domains t) s cs → sources t cs d ≡ sources r cs d
  same-sources cs known = (between-lines t r cs d l b (agree-sources cs known)).set

  below : d < domains r
  below = subst (λ n. d < n) l.same_domains b

  -- by the list of the first table
  onward : (u : ℕ) → has_bit (could_influence t s d) u ≡ true → has_bit (could_influence r s d) u ≡ true
  onward u h =
      let all = makes-all t s l.first in
      let cs = split (influence_list t s) in
      let here = (all.all d u b).1 ((every-could-influence t s d u l.first b).0 h) in
      source-could-influence r s cs d u l.second (done-known (domains r) s t cs all.calls) below
      (subst (λ vs. member u vs ≡ true) (same-sources cs (done-known (domains t) s t cs all.calls)) here)

  -- by the list of the second
  back : (u : ℕ) → has_bit (could_influence r s d) u ≡ true → has_bit (could_influence t s d) u ≡ true
  back u h =
      let all = makes-all r s l.second in
      let cs = split (influence_list r s) in
      let known = done-known (domains t) s r cs all.calls in
      let there = (all.all d u below).1 ((every-could-influence r s d u l.second below).0 h) in
      source-could-influence t s cs d u l.first known b
      (subst (λ vs. member u vs ≡ true) (sym (same-sources cs known)) there)

pub lines-same-influence : EveryLinesSameInfluence
lines-same-influence t r s d l b agree =
    same_bits _ _ (λ u. same_test _ _ (onward t r s d l b agree u) (back t r s d l b agree u))

pub lines-influence : EveryLinesInfluence
lines-influence t r s cs d l b known agree = (between-lines t r cs d l b (agree-sources t r s d l b agree cs known)).seen

pub runs-influence : EveryRunsInfluence
runs-influence t r ws p q s d l b known agree =
    (between-runs t r ws p q d l b (agree-sources t r s d l b agree (split ws) known)).0
