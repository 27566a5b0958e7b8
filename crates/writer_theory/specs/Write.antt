-- The writing of a list of calls: from arbitrary calls and lent words to the code, the number that goes with it, and every word
-- at the end (document 02, (c)). Code that writes promises that what it answers and leaves is this outcome.
use Rattle.std.specs.Prelude.{ℕ, ◌+◌, Bool, cond, ◌||◌, List, [], ◌∷◌, ◌++◌, ltb, length, take, drop}
use Rattle.std.proofs.Math.Option.{Option, none, some}
use Rattle.machine.specs.Entry.{longest_list}
use Rattle.calls.specs.declared.Call.{Call}
use Rattle.writer_theory.specs.Words.{fits, written}

-- the index of the first call that can't be written, where the first call of the list has the index i
unfoldable pub unfit_from : ℕ → List Call → Option ℕ
unfit_from i [] = none
unfit_from i (c ∷ cs) = cond (fits c) (unfit_from (i + 1) cs) (some i)

-- the index from 0 of the first call that can't be written
unfoldable pub first_unfit : List Call → Option ℕ
first_unfit cs = unfit_from 0 cs

-- 31: more calls than a list may have words, or more words than that or than the lent space
unfoldable pub too_long : ℕ → ℕ → ℕ → Bool
too_long count words size = ltb longest_list count || ltb longest_list words || ltb size words

-- what writing answers and leaves: the code, the number that goes with it, and the lent words
pub record WriteOutcome : Type 0 where
  pub code : ℕ
  pub number : ℕ
  pub list : List ℕ

-- the words that an outcome says are written: so many at the start of the lent ones
abbrev pub words_written : WriteOutcome → List ℕ
words_written o = take o.number o.list

-- a refusal writes no word
abbrev pub refusal : ℕ → ℕ → List ℕ → WriteOutcome
refusal n i list = record { code = n; number = i; list = list }

-- the words ws of so many calls: at the start of the lent words, those past them left, or refused by 31
unfoldable pub words_put : ℕ → List ℕ → List ℕ → WriteOutcome
words_put count ws list =
    cond (too_long count (length ws) (length list)) (refusal 31 0 list)
    (record { code = 0; number = length ws; list = ws ++ drop (length ws) list })

-- 30 with the index of the first call that can't be written, before 31 is checked
abbrev pub after_unfit : Option ℕ → ℕ → List ℕ → List ℕ → WriteOutcome
after_unfit none count ws list = words_put count ws list
after_unfit (some i) count ws list = refusal 30 i list

-- The writing of count calls into lent words. The calls cs are those of them that are there: an array may hold fewer than are
-- counted. For the others 31 is due, since each call needs at least one word.
unfoldable pub writing : List Call → ℕ → List ℕ → WriteOutcome
writing cs count list = after_unfit (first_unfit cs) count (written cs) list
