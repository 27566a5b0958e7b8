-- The counts of one list at each endpoint below m, and what makes them balance (document 02 (e)): what was sent, and waited before
-- it, is what was received, what was lost and what waits after it.
use Rattle.std.specs.Prelude.{◌≡◌, ℕ, ◌+◌, ◌^◌, ◌<◌, ◌≤◌, List, slice_index}

-- no more came out than was there, and the sum of what was there fits a word
pub record CanBalance (m : ℕ) (sent received before after : List ℕ) : Type 0 where
  pub few : m ≤ 32
  pub enough : (e : ℕ) → e < m → slice_index received e + slice_index after e ≤ slice_index sent e + slice_index before e
  pub fits : (e : ℕ) → e < m → slice_index sent e + slice_index before e < 2 ^ 64

-- what was lost makes up the difference
abbrev pub Balances : ℕ → List ℕ → List ℕ → List ℕ → List ℕ → List ℕ → Type 0
Balances m sent received before after lost =
    (e : ℕ) → e < m → slice_index lost e + (slice_index received e + slice_index after e) ≡ slice_index sent e + slice_index before e
