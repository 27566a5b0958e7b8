-- When two readings of n domains and m endpoints agree, and what is claimed of them: the decision on every call is the same.
use Rattle.std.specs.Prelude.{ℕ, ◌<◌, ◌≡◌}
use Rattle.calls.specs.declared.Call.{Call}
use Rattle.rules.specs.Access.{Reading, decided_by}

-- the same rights among the domains, the same endpoints, owned by domains, and the same names
pub record SameReading (n m : ℕ) (r s : Reading) : Type 0 where
  pub rights : (h g : ℕ) → h < n → g < n → r.rights h g ≡ s.rights h g
  pub owner : (e : ℕ) → e < m → r.owner e ≡ s.owner e
  pub owned : (e : ℕ) → e < m → s.owner e < n
  pub waiting : (e : ℕ) → e < m → r.waiting e ≡ s.waiting e
  pub named : (x : ℕ) → r.named x ≡ s.named x

abbrev pub SameDecision : Type 0
SameDecision =
    (n m : ℕ) (r s : Reading) → SameReading n m r s → (call : Call) → decided_by n m r call ≡ decided_by n m s call
