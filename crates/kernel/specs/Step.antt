-- One call by itself, as the machine has it, on an accepted table and on arbitrary words (document 01, 'The calls').
use Rattle.std.specs.Prelude.{ℕ, ◌≡◌, cond, List, [], eqb, length, Result, Ok, Err}
use Rattle.result_code.specs.Code.{result_code}
use Rattle.machine.specs.Check.{table_code}
use Rattle.machine.specs.Call.{Call}
use Rattle.machine.specs.Machine as machine
use Rattle.machine.specs.Holders.{holders_of}
use Rattle.machine.specs.Entry.{holders_code}
use Rattle.run_result.specs.Entry.{entry_refusal_code}
use Rattle.run_result.specs.declared.EntryRefusal.{EntryRefusal}
use Rattle.answers.specs.Answer.{answer_words}
use Rattle.answers.specs.declared.Answer.{Answer}

-- the call c on the table t is answered by the words and leaves the table t' and the holders kept
pub record StepOutcome (t : List ℕ) (c : Call) (words t' kept : List ℕ) : Type 0 where
  pub answer : words ≡ machine.answer t c
  pub table : t' ≡ machine.step t c
  pub holders : kept ≡ holders_of (machine.step t c)

-- the code of a step, 0 or its refusal's code, and its answer words, none where it is refused
abbrev pub step_code : Result Answer EntryRefusal → ℕ
step_code r = result_code entry_refusal_code r

abbrev pub step_words : Result Answer EntryRefusal → List ℕ
step_words (Err r) = []
step_words (Ok a) = answer_words a

-- the entry's code for one call, with so many words lent for the holders: the table's 2 to 5, then 6, or 0 where neither refuses
unfoldable pub step_entry_code : List ℕ → ℕ → ℕ
step_entry_code t lent = cond (eqb (table_code t) 0) (holders_code t lent) (table_code t)

-- Where the entry doesn't refuse, the machine is fed the call c, and the holders are those of the table after it, whatever was
-- lent for them. Where it refuses, nothing is answered and nothing changes.
pub record StepPromise (t : List ℕ) (c : Call) (holders : List ℕ) (r : Result Answer EntryRefusal) (t' kept : List ℕ) : Type 0 where
  pub code : step_code r ≡ step_entry_code t (length holders)
  pub words : step_words r ≡ cond (eqb (step_entry_code t (length holders)) 0) (machine.answer t c) []
  pub table : t' ≡ cond (eqb (step_entry_code t (length holders)) 0) (machine.step t c) t
  pub same_holders : kept ≡ cond (eqb (step_entry_code t (length holders)) 0) (holders_of (machine.step t c)) holders
