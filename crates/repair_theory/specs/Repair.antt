-- The repair of a table (document 02 (k)): from arbitrary words as a table and any lent list to the code, the count of words
-- altered, and every word at the end.
use Rattle.std.specs.Prelude.{ℕ, ◌≡◌, cond, not, List, ◌++◌, eqb, ltb, length, drop}
use Rattle.repair_theory.specs.Mend.{mended, mendable}
use Rattle.repair_theory.specs.Changes.{differing, changes}

-- two words for every word that mending alters: its place from 0 and its old content, lowest place first
unfoldable pub altered : List ℕ → List ℕ
altered t = changes t (mended t)

-- how many words mending alters
unfoldable pub altered_count : List ℕ → ℕ
altered_count t = length (differing t (mended t))

-- the code, for a lent list of a size: 33 where mending isn't enough, then 34 where the list is too short, else 0
unfoldable pub repair_code : List ℕ → ℕ → ℕ
repair_code t size = cond (not (mendable t)) 33 (cond (ltb size (length (altered t))) 34 0)

-- what a repair answers and leaves: the code, the count of words altered, the table and the list
pub record RepairOutcome : Type 0 where
  pub code : ℕ
  pub count : ℕ
  pub table : List ℕ
  pub list : List ℕ

-- a refusal alters nothing
unfoldable pub refusal : ℕ → List ℕ → List ℕ → RepairOutcome
refusal n t list = record { code = n; count = 0; table = t; list = list }

-- a repair: the table is mended, and the pairs are at the front of the list, whose words after them stay
unfoldable pub repaired : List ℕ → List ℕ → RepairOutcome
repaired t list =
    record {
      code = 0;
      count = altered_count t;
      table = mended t;
      list = altered t ++ drop (length (altered t)) list;
    }

unfoldable pub repair : List ℕ → List ℕ → RepairOutcome
repair t list =
    let n = repair_code t (length list) in
    cond (eqb n 0) (repaired t list) (refusal n t list)

-- What is promised of whoever repairs the table t with the lent words list: the code and the count of words altered that it
-- answers, and the table and the lent words that it leaves.
pub record RepairPromise (t list : List ℕ) (code count : ℕ) (end reported : List ℕ) : Type 0 where
  pub same_code : code ≡ (repair t list).code
  pub same_count : count ≡ (repair t list).count
  pub same_table : end ≡ (repair t list).table
  pub same_list : reported ≡ (repair t list).list
