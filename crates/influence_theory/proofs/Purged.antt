-- Noninterference by those that could influence a domain (specs/Claims). By the set itself it is a case of the theorem for any set
-- that is closed along a run. By a larger one: of all calls and of those from the larger, the set keeps the same. Assumes nothing.
use mathlib.Core.Path.{◌≡◌, refl, sym, ap, ◌∙◌}
use mathlib.Core.Bool.{Bool, true, false, cond, false≢true}
use mathlib.Core.List.{List, [], ◌∷◌, append-nil}
use mathlib.Core.Option.{Option, none, some}
use Prim.Native.Nat.{ℕ}
use Rattle.machine.specs.Below.{has_bit}
use Rattle.machine.specs.Table.{domains}
use Rattle.machine.specs.Call.{Call, caller_of, split}
use Rattle.machine.specs.Run as machine
use Rattle.machine.specs.DomainSet.{from_group}
use Rattle.machine.specs.Purge.{view}
use Rattle.isolation_theory.specs.Component.{calls_from}
use Rattle.isolation_theory.proofs.Ran.{ran-accepted, ran-table, ran-answers}
use Rattle.isolation_theory.proofs.Component.{set-noninterference}
use Rattle.potential_theory.specs.Claims.{KnownCallersIn, everyone}
use Rattle.potential_theory.proofs.Sound.{start-came, everyone-known}
use Rattle.influence_theory.specs.Influence.{could_influence}
use Rattle.influence_theory.specs.Claims.{influence_calls, EveryRunInfluenceNoninterference}
use Rattle.influence_theory.specs.Claims.{EveryPromisedRunInfluenceNoninterference, EveryLargerSetNoninterference}
use Rattle.influence_theory.specs.Claims.{EveryRunEveryoneNoninterference}
use Rattle.influence_theory.specs.Claims.{EveryPromisedRunEveryoneNoninterference, EveryCallerIsKnown}
use Rattle.influence_theory.proofs.Sound.{own-influence, closed-along}

-- ---- calls from a set, and from a larger one

-- a caller in the smaller is in the larger
larger :
    (set wide : ℕ)
    → ((u : ℕ) → has_bit set u ≡ true → has_bit wide u ≡ true)
    → (q : Option ℕ)
    → from_group (has_bit set) q ≡ true
    → from_group (has_bit wide) q ≡ true
unfolding from_group
larger set wide more none h = h
larger set wide more (some u) h = more u h

module _ (set wide : ℕ) (more : (u : ℕ) → has_bit set u ≡ true → has_bit wide u ≡ true) where
  calls-within : (cs : List Call) → calls_from set (calls_from wide cs) ≡ calls_from set cs
  unfolding calls_from
  calls-within [] = refl
  calls-within (c ∷ cs) =
      go (from_group (has_bit wide) (caller_of c)) refl (from_group (has_bit set) (caller_of c)) refl (calls-within cs)
    where
      rest : List Call
      rest = calls_from wide cs

      go :
          (b : Bool)
          → from_group (has_bit wide) (caller_of c) ≡ b
          → (e : Bool)
          → from_group (has_bit set) (caller_of c) ≡ e
          → calls_from set rest ≡ calls_from set cs
          → calls_from set (cond b (c ∷ rest) rest) ≡ cond e (c ∷ calls_from set cs) (calls_from set cs)
      go true _ true q same = rw (q, same)
      go true _ false q same = rw (q, same)
      go false p true q same = absurd (false≢true (sym p ∙ larger set wide more (caller_of c) q))
      go false p false q same = same

known_from : (n s set : ℕ) (cs : List Call) → KnownCallersIn n s cs → KnownCallersIn n s (calls_from set cs)
unfolding calls_from
known_from n s set [] known = tt
known_from n s set (c ∷ cs) known = go (from_group (has_bit set) (caller_of c)) (known_from n s set cs known.1)
  where
    go : (b : Bool) → KnownCallersIn n s (calls_from set cs) → KnownCallersIn n s (cond b (c ∷ calls_from set cs) (calls_from set cs))
    go true rest = (known.0, rest)
    go false rest = rest

-- ---- the machine

pub influence-noninterference : EveryRunInfluenceNoninterference
unfolding influence_calls
influence-noninterference t s cs rest a known d b =
    set-noninterference t cs rest d (could_influence t s d) a b (own-influence t s d a b)
    (closed-along t s d a b t cs (start-came t s a) known)

pub larger-set-noninterference : EveryLargerSetNoninterference
unfolding influence_calls
larger-set-noninterference t s cs rest d wide a known b more =
    let ks = calls_from wide cs in
    let kept = influence-noninterference t s ks [] a (known_from (domains t) s wide cs known) d b in
    influence-noninterference t s cs rest a known d b
    ∙ ap (λ js. view d js (machine.answers t js) (machine.run t js)) (sym (calls-within (could_influence t s d) wide more cs))
    ∙ sym kept
    ∙ ap (λ answers. view d ks answers (machine.run t ks)) (append-nil (machine.answers t ks))

pub caller-is-known : EveryCallerIsKnown
caller-is-known = everyone-known

pub everyone-noninterference : EveryRunEveryoneNoninterference
everyone-noninterference t cs rest a = influence-noninterference t (everyone t) cs rest a (everyone-known t cs)

-- ---- the words that the kernel left

pub promised-influence-noninterference : EveryPromisedRunInfluenceNoninterference
promised-influence-noninterference t ws p s known =
    rw (ran-answers t ws p, ran-table t ws p) (influence-noninterference t s (split ws) _ (ran-accepted t ws p) known)

pub promised-everyone-noninterference : EveryPromisedRunEveryoneNoninterference
promised-everyone-noninterference t ws p =
    promised-influence-noninterference t ws p (everyone t) (everyone-known t (split ws))
