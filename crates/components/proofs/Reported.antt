-- What is reported in each of the three cases (specs/Reported). Assumes nothing.
use mathlib.Core.Path.{◌≡◌, ◌∙◌}
use mathlib.Core.List.{List}
use Prim.Native.Nat.{ℕ, ◌<◌, ◌≤◌}
use native.Mathlib.Nat.{lt_of_lt_of_le}
use native.Mathlib.Omega.{arith}
use borrow.Author.Tests.{ltb-true, eqb-true, eqb-false, lt-ltb, le-ltb, ne_eqb}
use lib.Dec.{eqb, ltb}
use lib.Pow.{pow_mono}
use Rattle.machine.specs.Table.{domains}
use Rattle.machine.specs.Check.{table_code, Accepted}
use Rattle.machine.proofs.Bools.{cond-elim}
use Rattle.machine.proofs.Accepted.{accepted-counts}
use Rattle.reachability.proofs.Bounds.{relation-lt}
use Rattle.isolation_theory.specs.Component.{joined, component}
use Rattle.table_check.specs.declared.TableRefusal.TheVariants.{BadHeader, BadLength, BadRights, BadEndpoint}
use Rattle.components.specs.Reported.{reported_code, reported_members, ComponentReported, domain_refusal_code, component_code}
use Rattle.components.specs.declared.DomainRefusal.{DomainRefusal}
use Rattle.components.specs.declared.DomainRefusal.TheVariants.{BadTable, NotDomains}
use Rattle.std.specs.Prelude.{Result, Ok, Err}

module _ (t : List ℕ) (d : ℕ) where
  -- a table that is refused by its code
  pub reported-refused : (code : ℕ) → code ≡ table_code t → (code ≡ 0 → ⊥) → ComponentReported t d code 0
  unfolding reported_members reported_code
  reported-refused code e n =
      let bad = ne_eqb (table_code t) 0 (λ none. n (e ∙ none)) in
      record { same_code = rw bad e; same_members = rw (bad, bad) }

  module _ (a : Accepted t) where
    -- an index that is no domain's
    pub reported-none : domains t ≤ d → ComponentReported t d 32 0
    unfolding reported_members reported_code
    reported-none l = record { same_code = rw (a, le-ltb d (domains t) l); same_members = rw (a, le-ltb d (domains t) l) }

    pub reported : d < domains t → (members : ℕ) → members ≡ component t d → ComponentReported t d 0 members
    unfolding reported_members reported_code
    reported l members e = record { same_code = rw (a, lt-ltb d (domains t) l); same_members = rw (a, lt-ltb d (domains t) l) e }

  -- where the code is 0 the table is accepted and d is a domain
  reported-of : reported_code t d ≡ 0 → Accepted t × (d < domains t)
  unfolding reported_code
  reported-of =
      cond-elim (λ n. n ≡ 0 → Accepted t × (d < domains t)) (eqb (table_code t) 0)
      (λ a.
      cond-elim (λ n. n ≡ 0 → Accepted t × (d < domains t)) (ltb d (domains t))
      (λ l _. (eqb-true _ _ a, ltb-true _ _ l))
      (λ _ h. absurd (omega arith)))
      (λ n h. absurd (eqb-false _ _ n h))

  -- the members are bits below sixteen
  pub members-small : reported_members t d < 65536
  unfolding reported_members component
  members-small =
      cond-elim (λ n. n < 65536) (eqb (reported_code t d) 0)
      (λ e.
      let (a, l) = reported-of (eqb-true _ _ e) in
      lt_of_lt_of_le (relation-lt (domains t) (joined t) d l) (pow_mono (accepted-counts t a).1))
      (λ _. omega arith)

-- a refusal's code is small
pub refusal-small : (r : DomainRefusal) → domain_refusal_code r ≤ 32
refusal-small (BadTable BadHeader) = omega arith
refusal-small (BadTable BadLength) = omega arith
refusal-small (BadTable BadRights) = omega arith
refusal-small (BadTable BadEndpoint) = omega arith
refusal-small NotDomains = omega arith

-- an answer's code is small
pub code-small : (a : Result ℕ DomainRefusal) → component_code a ≤ 32
code-small (Ok members) = omega arith
code-small (Err r) = refusal-small r
