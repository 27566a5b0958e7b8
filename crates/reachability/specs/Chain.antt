-- Chains of steps, of any length, and the claim that the closure holds exactly those that have one.
use Rattle.std.specs.Prelude.{ℕ, ◌^◌, ◌≡◌, Bool, true, ◌&&◌, ◌↔◌, List, ltb, get_or}
use Rattle.machine.specs.Below.{has_bit, words_below, bits_below}
use Rattle.reachability.specs.Closure.{closed}

-- A chain of steps of the relation r to d, of any length: d itself has one, and so has each that has a step to one that has one.
pub data Chain (r : ℕ → ℕ → Bool) (d : ℕ) : ℕ → Type 0 where
  end : Chain r d d
  link : {u v : ℕ} → r u v ≡ true → Chain r d v → Chain r d u

-- u has a step to v in the words ws: bit u of word v is set
unfoldable pub linked : List ℕ → ℕ → ℕ → Bool
linked ws u v = has_bit (get_or ws v 0) u

-- The closure of the set s holds exactly those that have a chain to a member of s, whatever the words and the set.
abbrev pub ClosedExactly : Type 0
ClosedExactly =
    (ws : List ℕ) (s u : ℕ)
    → (has_bit (closed ws s) u ≡ true) ↔ ((d : ℕ) × (has_bit s d ≡ true) × Chain (linked ws) d u)

-- the relation r among the numbers below n, as words: bit u of word v is set where u is related to v
unfoldable pub link_words : ℕ → (ℕ → ℕ → Bool) → List ℕ
link_words n r = words_below n (λ v. bits_below n (λ u. r u v))

-- u is related to v, and both are below n
unfoldable pub among : ℕ → (ℕ → ℕ → Bool) → ℕ → ℕ → Bool
among n r u v = ltb u n && ltb v n && r u v

-- For any relation below n, the closure of d alone holds exactly those that have a chain to d.
abbrev pub RelationClosedExactly : Type 0
RelationClosedExactly =
    (n : ℕ) (r : ℕ → ℕ → Bool) (d u : ℕ) → (has_bit (closed (link_words n r) (2 ^ d)) u ≡ true) ↔ Chain (among n r) d u
