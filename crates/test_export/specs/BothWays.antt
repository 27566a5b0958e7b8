-- What two runs of a list give that are the same (document 02 (l)).
use Rattle.std.specs.Prelude.{ℕ, ◌≡◌, Result, cond, List, eqb}
use Rattle.run_result.specs.declared.EntryRefusal.{EntryRefusal}
use Rattle.run_result.specs.Entry.{ran_code, ran_calls}

-- 1 where two runs ended by the same code, after as many calls, else 0
abbrev pub same_end : Result ℕ EntryRefusal → Result ℕ EntryRefusal → ℕ
same_end a b = cond (eqb (ran_code a) (ran_code b)) (cond (eqb (ran_calls a) (ran_calls b)) 1 0) 0

-- The result is 1, and the tables, the answer spaces and the holders that both runs left are the same.
pub record SameBothWays (r : ℕ) (end end' answers answers' kept kept' : List ℕ) : Type 0 where
  pub ended : r ≡ 1
  pub same_table : end' ≡ end
  pub same_answers : answers' ≡ answers
  pub same_holders : kept' ≡ kept
