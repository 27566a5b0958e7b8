-- Each source of d could influence it (specs/Claims). Along a run of calls by domains of s every right that is ever held is
-- potential, so whoever reaches one that could influence d could do so itself: the set is closed along the run. Assumes nothing.
use mathlib.Core.Path.{◌≡◌, subst}
use mathlib.Core.Bool.{true, ◌&&◌}
use mathlib.Core.List.{List, [], ◌∷◌}
use Prim.Native.Nat.{ℕ, ◌<◌}
use borrow.Author.Tests.{ltb-true}
use lib.Dec.{ltb}
use Rattle.machine.specs.Below.{has_bit}
use Rattle.machine.specs.Table.{domains, rights}
use Rattle.machine.specs.Check.{Accepted}
use Rattle.machine.specs.Call.{Call}
use Rattle.machine.specs.Machine.{step}
use Rattle.machine.specs.Influence.{reaches}
use Rattle.unwinding.specs.Unwinding as unwinding
use Rattle.machine.proofs.Bools.{and_left, and_right}
use Rattle.unwinding.proofs.Unwinding.{sources-closed}
use Rattle.machine.proofs.Purge.{tables, sources-is}
use Rattle.potential_theory.specs.Claims.{KnownCallersIn}
use Rattle.potential_theory.proofs.Sets.{some_right}
use Rattle.potential_theory.proofs.Sound.{Came, start-came, step-came, run-came, came-back}
use Rattle.influence_theory.specs.Influence.{CouldInfluence, CouldInfluence.itself, CouldInfluence.through, could_influence}
use Rattle.influence_theory.specs.Claims.{EverySourceCouldInfluence, EveryRunNobodyNew}
use Rattle.influence_theory.proofs.Exact.{every-could-influence, influence-of-domains}

module _ (t : List ℕ) (s d : ℕ) (a : Accepted t) (b : d < domains t) where
  -- d is in its set
  pub own-influence : has_bit (could_influence t s d) d ≡ true
  own-influence = (every-could-influence t s d d a b).1 itself

  -- a domain of s that reaches a member in a table that came about is a member
  joins :
      (x : List ℕ) (u v : ℕ)
      → Came t s x
      → (u < domains t → has_bit s u ≡ true)
      → (ltb u (domains x) && reaches x u v) ≡ true
      → has_bit (could_influence t s d) v ≡ true
      → has_bit (could_influence t s d) u ≡ true
  unfolding reaches
  joins x u v w known r m =
      let lu : u < domains t = subst (λ k. u < k) w.count (ltb-true _ _ (and_left (ltb u (domains x)) _ r)) in
      let lv = influence-of-domains t s d v b m in
      let (k, has) = some_right (rights x u v) (and_right (ltb u (domains x)) _ r) in
      (every-could-influence t s d u a b).1
      (through (known lu) (w.only u v k lu lv has) ((every-could-influence t s d v a b).0 m))

  pub closed-along :
      (x : List ℕ) (cs : List Call)
      → Came t s x
      → KnownCallersIn (domains t) s cs
      → unwinding.Closed (tables (domains t)) (λ v. has_bit (could_influence t s d) v ≡ true) x cs
  closed-along x [] w known = tt
  closed-along x (c ∷ cs) w known =
      (λ u v by r m. joins x u v w (known.0 u by) r m, closed-along (step x c) cs (step-came t s x w c known.0) known.1)

pub source-could-influence : EverySourceCouldInfluence
source-could-influence t s cs d u a known b m =
    let n = domains t in
    sources-closed (tables n) (λ v. has_bit (could_influence t s d) v ≡ true) t cs d (own-influence t s d a b)
    (closed-along t s d a b t cs (start-came t s a) known)
    u
    (rw (sources-is n t cs d) m)

-- ---- after a run

could-back :
    (t : List ℕ) (s : ℕ) (x : List ℕ) → Came t s x → {d u : ℕ} → CouldInfluence x s d u → CouldInfluence t s d u
could-back t s x w itself = itself
could-back t s x w (through acts p c) = through acts (came-back t s x w p) (could-back t s x w c)

pub nobody-new : EveryRunNobodyNew
nobody-new t s cs d u a known = could-back t s _ (run-came t s t cs (start-came t s a) known)
