-- Sets of domains, and whether a call's caller is in one. Nothing here depends on a table or a machine: a domain is an index,
-- and a call has a caller or none.
use Rattle.std.specs.Prelude.{ℕ, Bool, false, ◌||◌, List, [], ◌∷◌, eqb}
use Rattle.std.proofs.Math.Option.{Option, none, some}

-- A set of domains is the list of its members.
unfoldable pub member : ℕ → List ℕ → Bool
member u [] = false
member u (v ∷ vs) = eqb u v || member u vs

-- a call's caller is in a set
unfoldable pub caller_in : Option ℕ → List ℕ → Bool
caller_in none vs = false
caller_in (some u) vs = member u vs

-- a call is of domain d
unfoldable pub called_by : ℕ → Option ℕ → Bool
called_by d none = false
called_by d (some u) = eqb u d

-- a call's caller is in a group, which is any set of domains given by its test
unfoldable pub from_group : (ℕ → Bool) → Option ℕ → Bool
from_group group none = false
from_group group (some u) = group u
