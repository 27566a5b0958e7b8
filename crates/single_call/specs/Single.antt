-- One call by itself on any table as C receives it: a code, the table, the answer space and the holders.
use Rattle.std.specs.Prelude.{ℕ, ◌≡◌, cond, List, [], ◌∷◌, ◌++◌, length, get_or, drop, eqb, ltb}
use Rattle.machine.specs.Call.{Call, split}
use Rattle.machine.specs.Machine as machine
use Rattle.machine.specs.Holders.{holders_of}
use Rattle.calls.specs.Split.{call_of, second_at, width_of}
use Rattle.kernel.specs.Step.{step_entry_code}

-- 99 for an answer space under three words, else the step's code
unfoldable pub single_code : List ℕ → List ℕ → List ℕ → ℕ
single_code t space holders = cond (ltb (length space) 3) 99 (step_entry_code t (length holders))

-- the machine is fed the call c where the code is 0, with its three words before the rest of what was in the space, and the holders
-- of the table after it; else nothing changes
pub record SingleCall (t : List ℕ) (c : Call) (space holders : List ℕ) (code : ℕ) (t' space' kept : List ℕ) : Type 0 where
  pub same_code : code ≡ single_code t space holders
  pub table : t' ≡ cond (eqb (single_code t space holders) 0) (machine.step t c) t
  pub answer : space' ≡ cond (eqb (single_code t space holders) 0) (machine.answer t c ++ drop 3 space) space
  pub same_holders : kept ≡ cond (eqb (single_code t space holders) 0) (holders_of (machine.step t c)) holders

-- the call at the front of words, and the code of running it: 36 where there are more words or none, then 6 for an answer space
-- under three words, then the step's code
abbrev pub call_in : List ℕ → Call
call_in ws = call_of (get_or ws 0 0) (second_at ws 0)

unfoldable pub call_code : List ℕ → List ℕ → List ℕ → List ℕ → ℕ
call_code t holders ws space =
    cond (eqb (length ws) (width_of (second_at ws 0))) (cond (ltb (length space) 3) 6 (step_entry_code t (length holders))) 36

-- Where the code is 0 the words are this call and no other in a list too, the machine is fed it, its three words are before the rest
-- of what was in the space, and the holders are those of the table after it. Else nothing changes.
pub record CallOfWords (t holders ws space : List ℕ) (code : ℕ) (t' kept space' : List ℕ) : Type 0 where
  pub same_code : code ≡ call_code t holders ws space
  pub one_call : code ≡ 0 → split ws ≡ call_in ws ∷ []
  pub table : t' ≡ cond (eqb code 0) (machine.step t (call_in ws)) t
  pub same_holders : kept ≡ cond (eqb code 0) (holders_of (machine.step t (call_in ws))) holders
  pub answer : space' ≡ cond (eqb code 0) (machine.answer t (call_in ws) ++ drop 3 space) space
