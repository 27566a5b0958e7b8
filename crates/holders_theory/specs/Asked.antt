-- What the holders report of who can reach a domain (document 02 (h)): a code, and a set of domains as bits.
use Rattle.std.specs.Prelude.{ℕ, ◌^◌, ◌≡◌, Bool, true, cond, ◌&&◌, ◌↔◌, List, leb, ltb, length, get_or}
use Rattle.machine.specs.Below.{all_below, has_bit}
use Rattle.reachability.specs.Closure.{closed}
use Rattle.reachability.specs.Chain.{Chain, linked}

-- no word has a bit at or above the count of the words
unfoldable pub bits_within : List ℕ → Bool
bits_within ws = all_below (length ws) (λ v. ltb (get_or ws v 0) (2 ^ length ws))

-- the words ws can be asked about d: they are 1 to 16, none has a bit at or above their count, and d is below it
unfoldable pub askable : List ℕ → ℕ → Bool
askable ws d = leb 1 (length ws) && leb (length ws) 16 && bits_within ws && ltb d (length ws)

-- the code: 32 where the words can't be asked, else 0
unfoldable pub ask_code : List ℕ → ℕ → ℕ
ask_code ws d = cond (askable ws d) 0 32

-- the domains with a chain of rights to d, as bits: the closure of d alone, or none where the words can't be asked
unfoldable pub asked : List ℕ → ℕ → ℕ
asked ws d = cond (askable ws d) (closed ws (2 ^ d)) 0

-- The code and the set are what the words ws report of d. With the code 0, the set has exactly the domains with a chain to d in
-- these words.
pub record ReachReported (ws : List ℕ) (d code set : ℕ) : Type 0 where
  pub same_code : code ≡ ask_code ws d
  pub same_set : set ≡ asked ws d
  pub exactly : code ≡ 0 → (u : ℕ) → (has_bit set u ≡ true) ↔ Chain (linked ws) d u
