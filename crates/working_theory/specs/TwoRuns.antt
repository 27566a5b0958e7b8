-- What is claimed of two runs of a list, in place and on a working state (document 02 (l)): both give the same.
use Rattle.std.specs.Prelude.{ℕ, ◌≡◌, List}
use Rattle.machine.specs.Promise.{RunPromise}

-- two runs answered the same and left the same words
pub record SameRun (code code' calls calls' : ℕ) (answers answers' end end' kept kept' : List ℕ) : Type 0 where
  pub same_code : code ≡ code'
  pub same_calls : calls ≡ calls'
  pub same_answers : answers ≡ answers'
  pub same_table : end ≡ end'
  pub same_holders : kept ≡ kept'

-- Two runs that keep the promise of a run from the same words, as `kernel::run` and `run_working` do by their contracts, give the
-- same, on every table, accepted or not, and every list. So what the promise says of one, of purged calls too, it says of both.
abbrev pub BothGiveTheSame : Type 0
BothGiveTheSame =
    (t ws space holders : List ℕ) (code code' calls calls' : ℕ) (answers answers' end end' kept kept' : List ℕ)
    → RunPromise t ws space holders code calls answers end kept
    → RunPromise t ws space holders code' calls' answers' end' kept'
    → SameRun code code' calls calls' answers answers' end end' kept kept'
