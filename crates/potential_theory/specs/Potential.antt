-- The potential rights, those that could ever come about: the safety question of protection systems (Harrison, Ruzzo and
-- Ullman), asked of a table. The domains of a set s act, by any calls in any order, and the others do nothing. A set of domains
-- is a number with a bit for each member, and a single right is one bit of a set of rights: 2 ^ k, GRANT at k 1.
use Rattle.std.specs.Prelude.{ℕ, ◌<◌, ◌^◌, ◌≡◌, true, List}
use Rattle.machine.specs.Below.{has_bit}
use Rattle.machine.specs.Right.{holds}
use Rattle.machine.specs.Table.{domains, rights}

-- The right 2 ^ k of h on g is potential in the table t where the domains of s act: h has it, or some u of s that could have
-- GRANT on g and some right on h could have it too, and give it to h. That is the least relation that has the table's rights and
-- all that its members can give. A grant to oneself gives nothing new, and removes and revokes only take away.
pub data Potential (t : List ℕ) (s : ℕ) : ℕ → ℕ → ℕ → Type 0 where
  held : {h g k : ℕ} → h < domains t → g < domains t → holds (rights t h g) (2 ^ k) ≡ true → Potential t s h g k
  given :
      {u h g j k : ℕ}
      → has_bit s u ≡ true
      → Potential t s u g 1
      → Potential t s u h j
      → Potential t s u g k
      → Potential t s h g k
