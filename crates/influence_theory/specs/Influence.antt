-- Who could ever influence whom. The source set of a domain d is computed along a list of calls, on the tables as they change, so
-- no one table says who can be in it. Here it is asked of a table for all lists at once: which domains could be a source of d,
-- where the domains of a set s act, by any calls in any order, and the others do nothing.
use Rattle.std.specs.Prelude.{ℕ, ◌^◌, ◌≡◌, Bool, true, ◌&&◌, List}
use Rattle.machine.specs.Below.{has_bit}
use Rattle.machine.specs.Right.{has_any}
use Rattle.machine.specs.Table.{domains}
use Rattle.reachability.specs.Closure.{closed}
use Rattle.reachability.specs.Chain.{link_words}
use Rattle.potential_theory.specs.Potential.{Potential}
use Rattle.potential_theory.specs.Closure.{potential_rights}

-- u could influence d: it is d, or it acts and some right of it is potential on one that could. That is a chain of potential
-- rights from u to d, of any length, in which each but d acts.
pub data CouldInfluence (t : List ℕ) (s d : ℕ) : ℕ → Type 0 where
  itself : CouldInfluence t s d d
  through : {u v k : ℕ} → has_bit s u ≡ true → Potential t s u v k → CouldInfluence t s d v → CouldInfluence t s d u

-- u could reach v: it acts, and some right of it on v is potential
unfoldable pub could_reach : List ℕ → ℕ → ℕ → ℕ → Bool
could_reach t s u v = has_bit s u && has_any (potential_rights t s u v)

-- all that could influence d, as bits: d alone, closed over these steps
unfoldable pub could_influence : List ℕ → ℕ → ℕ → ℕ
could_influence t s d = closed (link_words (domains t) (could_reach t s)) (2 ^ d)
