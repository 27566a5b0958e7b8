-- The targets of a data word, as the code goes through them (document 01, 'The calls').
use Rattle.std.specs.Prelude.{ℕ, ◌+◌, ◌<◌, ◌≤◌}

-- the targets from low up to high are the domains among the eight from low on
pub record Eight (n low high : ℕ) : Type 0 where
  pub few : high ≤ low + 8
  pub within : high ≤ n
  pub all : (i : ℕ) → i < 8 → high ≤ low + i → n ≤ low + i
