-- What is reported of the potential rights in arbitrary words as a table, where the domains of the set s act: a code, and the
-- words left in the space that was lent for them.
use Rattle.std.specs.Prelude.{ℕ, ◌*◌, ◌^◌, ◌≡◌, cond, List, eqb, ltb, length, ⊤, Result}
use Rattle.machine.specs.Table.{domains}
use Rattle.machine.specs.Check.{table_code}
use Rattle.potential_theory.specs.Closure.{potential}
use Rattle.result_code.specs.Code.{result_code}
use Rattle.table_check.specs.Checked.{refusal_code}
use Rattle.potential.specs.declared.PotentialRefusal.{PotentialRefusal}
use Rattle.potential.specs.declared.PotentialRefusal.TheVariants.{BadTable, OtherSpace, NotDomains}

-- the code: the table's 2 to 5, then 6 where other than n × n words are lent, then 32 where s has a bit at or above n, else 0
unfoldable pub reported_code : List ℕ → ℕ → ℕ → ℕ
reported_code t s size =
    cond (eqb (table_code t) 0)
    (cond (eqb size (domains t * domains t)) (cond (ltb s (2 ^ domains t)) 0 32) 6)
    (table_code t)

-- the words left in the space: the matrix of potential rights, and the space as it was where the code isn't 0
unfoldable pub reported_rights : List ℕ → ℕ → List ℕ → List ℕ
reported_rights t s space = cond (eqb (reported_code t s (length space)) 0) (potential t s) space

-- The code and the words left are what is reported of the words t and the set s, with the space lent.
pub record PotentialReported (t : List ℕ) (s : ℕ) (space : List ℕ) (code : ℕ) (left : List ℕ) : Type 0 where
  pub same_code : code ≡ reported_code t s (length space)
  pub same_rights : left ≡ reported_rights t s space

-- the code of a refusal
abbrev pub potential_refusal_code : PotentialRefusal → ℕ
potential_refusal_code (BadTable r) = refusal_code r
potential_refusal_code OtherSpace = 6
potential_refusal_code NotDomains = 32

-- the code of an answer
abbrev pub potential_code : Result ⊤ PotentialRefusal → ℕ
potential_code r = result_code potential_refusal_code r
