-- What is reported of a domain's component (document 02 (j)) in arbitrary words as a table: a code, and the members as bits.
use Rattle.std.specs.Prelude.{ℕ, ◌≡◌, cond, List, eqb, ltb, Result, Ok, Err}
use Rattle.machine.specs.Table.{domains}
use Rattle.machine.specs.Check.{table_code}
use Rattle.isolation_theory.specs.Component.{component}
use Rattle.result_code.specs.Code.{result_code}
use Rattle.table_check.specs.Checked.{refusal_code}
use Rattle.components.specs.declared.DomainRefusal.{DomainRefusal}
use Rattle.components.specs.declared.DomainRefusal.TheVariants.{BadTable, NotDomains}

-- the code: the table's 2 to 5, then 32 where d isn't below n, else 0
unfoldable pub reported_code : List ℕ → ℕ → ℕ
reported_code t d = cond (eqb (table_code t) 0) (cond (ltb d (domains t)) 0 32) (table_code t)

-- the members: none where the code isn't 0
unfoldable pub reported_members : List ℕ → ℕ → ℕ
reported_members t d = cond (eqb (reported_code t d) 0) (component t d) 0

-- The code and the members are what is reported of the domain d in the words t.
pub record ComponentReported (t : List ℕ) (d code members : ℕ) : Type 0 where
  pub same_code : code ≡ reported_code t d
  pub same_members : members ≡ reported_members t d

-- the code of a refusal
abbrev pub domain_refusal_code : DomainRefusal → ℕ
domain_refusal_code (BadTable r) = refusal_code r
domain_refusal_code NotDomains = 32

-- the code of an answer
abbrev pub component_code : Result ℕ DomainRefusal → ℕ
component_code r = result_code domain_refusal_code r

-- the members that an answer has
abbrev pub component_members : Result ℕ DomainRefusal → ℕ
component_members (Ok members) = members
component_members (Err r) = 0
