-- What is reported of those that could influence the domain d in arbitrary words as a table, where the domains of the set s act: a
-- code, and the set as bits.
use Rattle.std.specs.Prelude.{ℕ, ◌^◌, ◌≡◌, Bool, cond, ◌&&◌, List, eqb, ltb, Result, Ok, Err}
use Rattle.machine.specs.Below.{has_bit}
use Rattle.machine.specs.Right.{has_any}
use Rattle.machine.specs.Table.{domains}
use Rattle.machine.specs.Check.{table_code}
use Rattle.potential_theory.specs.Closure.{cell}
use Rattle.influence_theory.specs.Influence.{could_influence}
use Rattle.result_code.specs.Code.{result_code}
use Rattle.components.specs.declared.DomainRefusal.{DomainRefusal}
use Rattle.components.specs.Reported.{domain_refusal_code}

-- u acts and has some right on v in the matrix m of n domains
unfoldable pub reaches_in : ℕ → ℕ → List ℕ → ℕ → ℕ → Bool
reaches_in n s m u v = has_bit s u && has_any (cell n m u v)

-- the code: the table's 2 to 5, then 32 where d isn't below n or s has a bit at or above n, else 0
unfoldable pub reported_code : List ℕ → ℕ → ℕ → ℕ
reported_code t s d =
    cond (eqb (table_code t) 0) (cond (ltb d (domains t) && ltb s (2 ^ domains t)) 0 32) (table_code t)

-- the set: empty where the code isn't 0
unfoldable pub reported_set : List ℕ → ℕ → ℕ → ℕ
reported_set t s d = cond (eqb (reported_code t s d) 0) (could_influence t s d) 0

-- The code and the set are what is reported of the domain d in the words t, where the domains of s act.
pub record InfluenceReported (t : List ℕ) (s d code set : ℕ) : Type 0 where
  pub same_code : code ≡ reported_code t s d
  pub same_set : set ≡ reported_set t s d

-- the code of an answer
abbrev pub influence_code : Result ℕ DomainRefusal → ℕ
influence_code r = result_code domain_refusal_code r

-- the set that an answer has
abbrev pub influence_set : Result ℕ DomainRefusal → ℕ
influence_set (Ok set) = set
influence_set (Err r) = 0
