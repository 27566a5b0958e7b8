-- The entry, which is total: from arbitrary words as table, list, answer space and holders to the code, the count of calls,
-- and every word at the end (document 01, 'Where each number is checked'; the holders are document 02 (h)).
use Rattle.std.specs.Prelude.{ℕ, ◌*◌, ◌≡◌, cond, List, ◌++◌, length, drop, eqb, ltb}
use Rattle.machine.specs.Table.{domains}
use Rattle.machine.specs.Check.{table_code}
use Rattle.machine.specs.Call.{split}
use Rattle.machine.specs.Run.{run, answers}
use Rattle.machine.specs.Holders.{holders_of}

-- the most words a list may have
abbrev pub longest_list : ℕ
longest_list = 4096

-- 6 where other than one word a domain is lent for the holders
unfoldable pub holders_code : List ℕ → ℕ → ℕ
holders_code t lent = cond (eqb lent (domains t)) 0 6

-- 6 where the answer space has fewer than three words a call, or the holders are other than one word a domain
unfoldable pub space_code : List ℕ → List ℕ → ℕ → ℕ → ℕ
space_code t ws size lent = cond (ltb size (3 * length (split ws))) 6 (holders_code t lent)

-- the entry's code, for an answer space of a size and so many words lent for the holders: 1, then the table's 2 to 5, then 6;
-- 0 where none refuses
unfoldable pub entry_code : List ℕ → List ℕ → ℕ → ℕ → ℕ
entry_code t ws size lent =
    cond (ltb longest_list (length ws)) 1 (cond (eqb (table_code t) 0) (space_code t ws size lent) (table_code t))

-- a list runs when no place of the entry refuses it
abbrev pub Runs : List ℕ → List ℕ → ℕ → ℕ → Type 0
Runs t ws size lent = entry_code t ws size lent ≡ 0

-- what the entry returns and leaves: the code, the count of calls, the table, the answer space and the holders
pub record Outcome : Type 0 where
  pub code : ℕ
  pub calls : ℕ
  pub table : List ℕ
  pub answers : List ℕ
  pub holders : List ℕ

-- what a refusal leaves: nothing is changed and no call is counted
unfoldable pub refusal : ℕ → List ℕ → List ℕ → List ℕ → Outcome
refusal n t space holders = record { code = n; calls = 0; table = t; answers = space; holders = holders }

-- what a run leaves: the space beyond three words a call is untouched, and the holders are those of the table at its end
unfoldable pub ran : List ℕ → List ℕ → List ℕ → Outcome
ran t ws space =
    record {
      code = 0;
      calls = length (split ws);
      table = run t (split ws);
      answers = answers t (split ws) ++ drop (3 * length (split ws)) space;
      holders = holders_of (run t (split ws));
    }

-- the entry: a refusal, or the run
unfoldable pub entry : List ℕ → List ℕ → List ℕ → List ℕ → Outcome
entry t ws space holders =
    let n = entry_code t ws (length space) (length holders) in
    let done = ran t ws space in
    cond (eqb n 0) done (refusal n t space holders)
