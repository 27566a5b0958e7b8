-- What `linerun` prints, part by part: a cursor over its lines gives the next part and goes on after it. Only a run makes a cursor,
-- before its first line (document 01, 'Into firmware and onto the bench').
use Rattle.std.specs.Prelude.{ℕ, zero, suc, ◌*◌, ◌≤◌, ◌<◌, ◌≡◌, Bool, cond, ◌&&◌, List, [], ◌++◌, eqb, ltb, leb, length, Result, Ok, Err}
use Rattle.machine.specs.Entry.{Outcome, longest_list}
use Rattle.linerun_report.specs.Lines.{all_lines, part_bytes, line_after, part_from}
use Rattle.linerun_report.specs.Report.{answer_space, answered, report, Follows}
use Rattle.std.specs.Result.{result_unwrap_or}
use Rattle.result_code.specs.Code.{result_code}
use Rattle.table_check.specs.declared.TableRefusal.TheVariants.{BadHeader, BadLength, BadRights, BadEndpoint}
use Rattle.run_result.specs.Entry.{entry_refusal_code}
use Rattle.run_result.specs.declared.EntryRefusal.TheVariants.{ListTooLong, BadTable, SpaceTooSmall}
use Rattle.linerun_report.specs.declared.Lines.{Lines}
use Rattle.linerun_report.specs.declared.Refusal.{Refusal}
use Rattle.linerun_report.specs.declared.Refusal.TheVariants.{Unreadable, Entry}

-- a refusal's code: the program's own is 7
abbrev pub refusal_code : Refusal → ℕ
refusal_code Unreadable = 7
refusal_code (Entry r) = entry_refusal_code r

-- a run's count of calls, 0 after a refusal, and its code, 0 where nothing is refused
abbrev pub ran_calls : Result ℕ Refusal → ℕ
ran_calls r = result_unwrap_or r 0

abbrev pub ran_code : Result ℕ Refusal → ℕ
ran_code r = result_code refusal_code r

-- a cursor: the count of calls and the code of the run, the next line, and how many bytes the last part had
abbrev pub calls_of : Lines → ℕ
calls_of l = ran_calls l.ran

abbrev pub code_of : Lines → ℕ
code_of l = ran_code l.ran

abbrev pub line_of : Lines → ℕ
line_of l = l.line

abbrev pub given_of : Lines → ℕ
given_of l = l.given

-- a cursor before the first line of an outcome
pub record FirstLines (o : Outcome) (l : Lines) : Type 0 where
  pub calls : calls_of l ≡ o.calls
  pub code : code_of l ≡ o.code
  pub line : line_of l ≡ 0
  pub given : given_of l ≡ 0

-- the refusal that has a code: 1 to 6 are the entry's, and 7 is the program's own
abbrev pub refusal_of : ℕ → Refusal
refusal_of code =
    cond (eqb code 1) (Entry ListTooLong)
    (cond (eqb code 2) (Entry (BadTable BadHeader))
    (cond (eqb code 3) (Entry (BadTable BadLength))
    (cond (eqb code 4) (Entry (BadTable BadRights))
    (cond (eqb code 5) (Entry (BadTable BadEndpoint))
    (cond (eqb code 6) (Entry SpaceTooSmall) Unreadable)))))

-- such a cursor, made of the outcome
unfoldable pub first_lines : Outcome → Lines
first_lines o = record { ran = cond (eqb o.code 0) (Ok o.calls) (Err (refusal_of o.code)); line = 0; given = 0 }

-- all lines were given
unfoldable pub ended : Lines → Bool
ended l = ltb (calls_of l) (line_of l)

-- a part is given: there are no more calls than a list can have, their answers are lent, and so is space for the longest part
unfoldable pub gives : Lines → List ℕ → ℕ → Bool
gives l answers space =
    leb (calls_of l) longest_list && leb (3 * calls_of l) (length answers) && leb part_bytes space

-- the part that is given with these answers and so many bytes of space: none where no part is given
unfoldable pub part_of : Lines → List ℕ → ℕ → List ℕ
part_of l answers space = cond (gives l answers space) (part_from (calls_of l) (code_of l) answers (line_of l)) []

-- the cursor after it, which is still at the same line where no part is given
unfoldable pub advanced : Lines → List ℕ → ℕ → Lines
advanced l answers space =
    record {
      ran = l.ran;
      line = cond (gives l answers space) (line_after (calls_of l) (line_of l)) (line_of l);
      given = length (part_of l answers space);
    }

-- the parts from a cursor on, one after another, until all lines were given; at most so many
unfoldable pub parts_from : ℕ → Lines → List ℕ → ℕ → List ℕ
parts_from zero l answers space = []
parts_from (suc most) l answers space =
    cond (ended l) [] (part_of l answers space ++ parts_from most (advanced l answers space) answers space)

-- The parts from line 0 on concatenate to the report, where there is space for the longest part, from every cursor before the first
-- line of what is answered; and for every input there is one. There are no more parts than lines.
abbrev pub PartsAreReport : Type 0
PartsAreReport =
    ((bytes : List ℕ) (l : Lines) (space most : ℕ) → FirstLines (answered bytes answer_space) l → part_bytes ≤ space
    → longest_list < most → parts_from most l (answered bytes answer_space).answers space ≡ report bytes)
    × ((bytes : List ℕ) → FirstLines (answered bytes answer_space) (first_lines (answered bytes answer_space)))

-- what a cursor will print of the bytes read, where the input ended after them or not: from line 0 on their report, and so that of
-- the whole input, whatever else is in it
pub record Prints (bytes : List ℕ) (input_ended : Bool) (l : Lines) (answers : List ℕ) : Type 0 where
  pub start : line_of l ≡ 0
  pub few : calls_of l ≤ longest_list
  pub lent : 3 * calls_of l ≤ length answers
  pub read : all_lines (calls_of l) (code_of l) answers ≡ report bytes
  pub whole : (more : List ℕ) → Follows input_ended more → all_lines (calls_of l) (code_of l) answers ≡ report (bytes ++ more)
