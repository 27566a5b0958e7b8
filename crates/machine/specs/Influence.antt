-- Influence: who can alter what belongs to a domain (document 01, 'Influence').
use Rattle.std.specs.Prelude.{ℕ, Bool, ◌||◌, List, eqb}
use Rattle.machine.specs.Right.{has_any}
use Rattle.machine.specs.Table.{rights}

-- u has any right on v
unfoldable pub reaches : List ℕ → ℕ → ℕ → Bool
reaches t u v = has_any (rights t u v)

-- u influences v in a table: u is v or u has any right on v
unfoldable pub influences : List ℕ → ℕ → ℕ → Bool
influences t u v = eqb u v || reaches t u v
