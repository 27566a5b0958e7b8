-- The parts that a cursor gives: each begins where the one before it ended, so that together they are all lines. Assumes nothing.
use Prim.Native.Nat.{ℕ, zero, suc, ◌+◌, ◌-◌, ◌*◌, ◌≤◌, ◌<◌, min, zero-le}
use mathlib.Core.Path.{◌≡◌, refl, sym, ap, ◌∙◌}
use mathlib.Core.Bool.{Bool, true, false, cond, ◌&&◌}
use mathlib.Core.List.{List, [], ◌++◌, append_assoc, append-nil}
use borrow.Author.Tests.{eqb-true, eqb-false, ltb-true, ltb-false, le-leb, leb-true}
use native.Mathlib.Omega.{arith}
use lib.Dec.{eqb, leb}
use lib.ListN.{length, take}
use Rattle.std.specs.Prelude.{Result}
use Rattle.machine.specs.Entry.{Outcome, longest_list}
use Rattle.machine.proofs.Bools.{and_left, and_right, cond-elim}
use Rattle.text.specs.Write.{overwrite, Writes}
use Rattle.text.proofs.WriteLaws.{length-overwrite, overwrite-none, writes-length, fills-front}
use Rattle.linerun_report.specs.Lines.{all_lines, printed_before, lines_between, part_bytes, line_after, part_from}
use Rattle.linerun_report.specs.Report.{answer_space, outcome_lines, answered, report}
use Rattle.linerun_report.specs.Cursor.{refusal_code, ran_calls, ran_code, calls_of, code_of, line_of, given_of, FirstLines, refusal_of, first_lines, ended, gives, part_of, advanced, parts_from, PartsAreReport}
use Rattle.linerun_report.specs.declared.Lines.{Lines}
use Rattle.linerun_report.specs.declared.Refusal.{Refusal}
use Rattle.linerun_report.proofs.LineLaws.{at-number, lines_join, all-printed}
use Rattle.linerun_report.proofs.ReportLaws.{answered-few, answered-code, refused-none, answers-lent}

-- the part from a line on continues what is printed before it
pub part-joins : (calls code : ℕ) (answers : List ℕ) (line : ℕ) → line ≤ calls
    → printed_before calls code answers line ++ part_from calls code answers line ≡ printed_before calls code answers (line_after calls line)
unfolding part_from line_after
part-joins calls code answers line h = lines_join calls code answers line (min (line + 256) (calls + 1)) (omega arith)

-- where enough is lent, a part is given
pub part-given : (l : Lines) (answers : List ℕ) (space : ℕ) → calls_of l ≤ longest_list → 3 * calls_of l ≤ length answers → part_bytes ≤ space
    → gives l answers space ≡ true
unfolding gives
part-given l answers space few lent fits = simp (le-leb _ _ few, le-leb _ _ lent, le-leb _ _ fits)

-- what is given then, and where the cursor is after it
module _ (l : Lines) (answers : List ℕ) (space : ℕ) (given : gives l answers space ≡ true) where
  pub part-is : part_of l answers space ≡ part_from (calls_of l) (code_of l) answers (line_of l)
  unfolding part_of
  part-is = rw given refl

  pub line-is : line_of (advanced l answers space) ≡ line_after (calls_of l) (line_of l)
  unfolding advanced
  line-is = rw given refl

-- the parts from a cursor on continue what is printed before it, up to the last line
parts_join : (most : ℕ) (l : Lines) (answers : List ℕ) (space : ℕ) → calls_of l ≤ longest_list → 3 * calls_of l ≤ length answers
    → part_bytes ≤ space → line_of l ≤ calls_of l + 1 → calls_of l + 1 ≤ most + line_of l
    → printed_before (calls_of l) (code_of l) answers (line_of l) ++ parts_from most l answers space
    ≡ printed_before (calls_of l) (code_of l) answers (calls_of l + 1)
unfolding parts_from ended advanced line_after
parts_join zero l answers space few lent fits within enough =
    append-nil (printed_before (calls_of l) (code_of l) answers (line_of l))
    ∙ at-number (printed_before (calls_of l) (code_of l) answers) (line_of l) (calls_of l + 1) (omega arith)
parts_join (suc most) l answers space few lent fits within enough =
    let given = part-given l answers space few lent fits in
    let next = line-is l answers space given in
    go (ended l) refl given
    (parts_join most (advanced l answers space) answers space few lent fits (omega (arith, next)) (omega (arith, next)))
  where
    before : ℕ → List ℕ
    before line = printed_before (calls_of l) (code_of l) answers line

    rest : List ℕ
    rest = parts_from most (advanced l answers space) answers space

    go : (b : Bool) → ended l ≡ b → gives l answers space ≡ true
        → before (line_of (advanced l answers space)) ++ rest ≡ before (calls_of l + 1)
        → before (line_of l) ++ cond b [] (part_of l answers space ++ rest) ≡ before (calls_of l + 1)
    go true e given later =
        append-nil (before (line_of l)) ∙ at-number before (line_of l) (calls_of l + 1) (omega (arith, ltb-true (calls_of l) (line_of l) e))
    go false e given later =
        sym (append_assoc (before (line_of l)) (part_of l answers space) rest)
        ∙ ap (λ (p : List ℕ). (before (line_of l) ++ p) ++ rest) (part-is l answers space given)
        ∙ ap (λ (p : List ℕ). p ++ rest) (part-joins (calls_of l) (code_of l) answers (line_of l) (ltb-false (calls_of l) (line_of l) e))
        ∙ ap (λ (k : ℕ). before k ++ rest) (sym (line-is l answers space given))
        ∙ later

-- before the first line nothing is printed
pub none-printed : (l : Lines) (answers : List ℕ) → line_of l ≡ 0 → printed_before (calls_of l) (code_of l) answers (line_of l) ≡ []
unfolding printed_before
none-printed l answers start = at-number (printed_before (calls_of l) (code_of l) answers) (line_of l) 0 start

from-first : (bytes : List ℕ) (l : Lines) (space most : ℕ) → FirstLines (answered bytes answer_space) l → part_bytes ≤ space
    → longest_list < most → parts_from most l (answered bytes answer_space).answers space ≡ report bytes
unfolding report outcome_lines
from-first bytes l space most first fits enough =
    let o = answered bytes answer_space in
    let few : calls_of l ≤ longest_list = omega (arith, first.calls, answered-few bytes answer_space) in
    let lent : 3 * calls_of l ≤ length o.answers = omega (arith, first.calls, answers-lent bytes answer_space) in
    ap (λ (p : List ℕ). p ++ parts_from most l o.answers space) (sym (none-printed l o.answers first.line))
    ∙ parts_join most l o.answers space few lent fits (omega (arith, first.line)) (omega (arith, few))
    ∙ sym (all-printed (calls_of l) (code_of l) o.answers)
    ∙ ap (λ (k : ℕ). all_lines k (code_of l) o.answers) first.calls
    ∙ ap (λ (k : ℕ). all_lines o.calls k o.answers) first.code

-- each code from 1 to 7 is that of its refusal
code-of-refusal : (k : ℕ) → 0 < k → k ≤ 7 → refusal_code (refusal_of k) ≡ k
code-of-refusal k some most =
    cond-elim has (eqb k 1) (λ e. sym (eqb-true k 1 e))
    (λ a.
    cond-elim has (eqb k 2) (λ e. sym (eqb-true k 2 e))
    (λ b.
    cond-elim has (eqb k 3) (λ e. sym (eqb-true k 3 e))
    (λ c.
    cond-elim has (eqb k 4) (λ e. sym (eqb-true k 4 e))
    (λ d.
    cond-elim has (eqb k 5) (λ e. sym (eqb-true k 5 e))
    (λ e.
    cond-elim has (eqb k 6) (λ e. sym (eqb-true k 6 e))
    (λ f. omega (arith, some, most, eqb-false k 1 a, eqb-false k 2 b, eqb-false k 3 c, eqb-false k 4 d, eqb-false k 5 e, eqb-false k 6 f)))))))
  where
    has : Refusal → Type 0
    has r = refusal_code r ≡ k

-- the cursor that is made of an outcome is before its first line
first-begins : (o : Outcome) → o.code ≤ 7 → (0 < o.code → o.calls ≡ 0) → FirstLines o (first_lines o)
unfolding first_lines
first-begins o most none =
    record {
      calls =
          cond-elim (λ (r : Result ℕ Refusal). ran_calls r ≡ o.calls) (eqb o.code 0) (λ _. refl)
          (λ e. sym (none (omega (arith, eqb-false o.code 0 e))));
      code =
          cond-elim (λ (r : Result ℕ Refusal). ran_code r ≡ o.code) (eqb o.code 0) (λ e. sym (eqb-true o.code 0 e))
          (λ e. code-of-refusal o.code (omega (arith, eqb-false o.code 0 e)) most);
      line = refl;
      given = refl;
    }

pub parts-are-report : PartsAreReport
parts-are-report = (
  from-first,
  λ bytes. first-begins (answered bytes answer_space) (answered-code bytes answer_space) (refused-none bytes answer_space),
)

-- ---- what `next` returns and leaves

-- where no part is given, the buffer stays and the cursor is at the same line
pub stays : (l : Lines) (answers out : List ℕ) → gives l answers (length out) ≡ false
    → (record { ran = l.ran; line = line_of l; given = 0 } ≡ advanced l answers (length out))
    × ((out ≡ overwrite 0 (part_of l answers (length out)) out) × (0 ≤ length out))
unfolding advanced part_of
stays l answers out none = (rw none refl, (rw none (sym (overwrite-none 0 out)), zero-le))

-- where one is given, enough is lent
pub enough-lent : (l : Lines) (answers : List ℕ) (space : ℕ) → gives l answers space ≡ true
    → (calls_of l ≤ longest_list) × (3 * calls_of l ≤ length answers) × (part_bytes ≤ space)
unfolding gives
enough-lent l answers space given =
    let few = leb (calls_of l) longest_list in
    let lent = leb (3 * calls_of l) (length answers) in
    let fits = leb part_bytes space in (
      leb-true (calls_of l) longest_list (and_left few lent (and_left (few && lent) fits given)),
      leb-true (3 * calls_of l) (length answers) (and_right few lent (and_left (few && lent) fits given)),
      leb-true part_bytes space (and_right (few && lent) fits given),
    )

-- and the lines that are written are the part
pub goes_on : (l : Lines) (answers out : List ℕ) {line bytes : ℕ} {left : List ℕ} → gives l answers (length out) ≡ true
    → line ≡ line_after (calls_of l) (line_of l)
    → Writes 0 (lines_between (calls_of l) (code_of l) answers (line_of l) line) out bytes left → bytes ≤ length out
    → (record { ran = l.ran; line = line; given = bytes } ≡ advanced l answers (length out))
    × ((left ≡ overwrite 0 (part_of l answers (length out)) out) × (bytes ≤ length left))
unfolding advanced part_of part_from
goes_on l answers out {line} {bytes} given next w fits =
    let v = rw next at w in
    let all : bytes ≡ length (lines_between (calls_of l) (code_of l) answers (line_of l) (line_after (calls_of l) (line_of l))) =
    omega (arith, v.place) in
    (rw (given, next, all) refl, (rw given v.bytes, omega (arith, writes-length v)))

-- ---- the loop that writes the parts

-- enough is lent for each part of a cursor, which is still one over the lines that it began with
pub record Going (first : Lines) (answers : List ℕ) (space : ℕ) (l : Lines) : Type 0 where
  pub few : calls_of l ≤ longest_list
  pub lent : 3 * calls_of l ≤ length answers
  pub fits : part_bytes ≤ space
  pub same-calls : calls_of l ≡ calls_of first
  pub same_code : code_of l ≡ code_of first

-- how many lines are left
unfoldable pub lines_left : Lines → ℕ
lines_left l = calls_of l + 1 - line_of l

-- a part that is given leaves fewer
module _ {first l next : Lines} {answers : List ℕ} {space : ℕ} (g : Going first answers space l)
    (is : next ≡ advanced l answers space) where
  pub going_next : Going first answers space next
  unfolding advanced
  going_next = rw is record { few = g.few; lent = g.lent; fits = g.fits; same-calls = g.same-calls; same_code = g.same_code }

  pub fewer-left : ended l ≡ false → lines_left next < lines_left l
  unfolding lines_left ended line_after advanced
  fewer-left more =
      let place = line-is l answers space (part-given l answers space g.few g.lent g.fits) in
      rw is (omega (arith, place, ltb-false (calls_of l) (line_of l) more))

  pub next-within : line_of next ≤ calls_of next + 1
  unfolding line_after advanced
  next-within = rw is (omega (arith, line-is l answers space (part-given l answers space g.few g.lent g.fits)))

  -- a part continues what was printed before it
  pub printed-next : ended l ≡ false
      → printed_before (calls_of l) (code_of l) answers (line_of l) ++ part_of l answers space
      ≡ printed_before (calls_of next) (code_of next) answers (line_of next)
  unfolding ended advanced
  printed-next more =
      let given = part-given l answers space g.few g.lent g.fits in
      let before = printed_before (calls_of l) (code_of l) answers in
      rw is
      (ap (λ (p : List ℕ). before (line_of l) ++ p) (part-is l answers space given)
      ∙ part-joins (calls_of l) (code_of l) answers (line_of l) (ltb-false (calls_of l) (line_of l) more)
      ∙ at-number before _ _ (sym (line-is l answers space given)))

-- the part that was given is at the buffer's front
pub part-in-front : (l next : Lines) (answers out left : List ℕ) → next ≡ advanced l answers (length out)
    → left ≡ overwrite 0 (part_of l answers (length out)) out → given_of next ≤ length left
    → take (given_of next) left ≡ part_of l answers (length out)
unfolding advanced
part-in-front l next answers out left is stored fits =
    let part = part_of l answers (length out) in
    let long : given_of next ≡ length part = ap given_of is in
    let room : length left ≡ length out = ap length stored ∙ length-overwrite 0 part out in
    let front = fills-front {items = part} {buffer = out} {count = given_of next} {left = left}
    (omega arith) (record { count-is = omega arith; items-are = stored }) in
    front.1

-- where all lines were given, all are printed
pub all-given : (first l : Lines) (answers : List ℕ) (space : ℕ) → Going first answers space l → ended l ≡ true → line_of l ≤ calls_of l + 1
    → printed_before (calls_of l) (code_of l) answers (line_of l) ≡ all_lines (calls_of first) (code_of first) answers
unfolding ended
all-given first l answers space g over within =
    at-number (printed_before (calls_of l) (code_of l) answers) (line_of l) (calls_of l + 1) (omega (arith, ltb-true (calls_of l) (line_of l) over))
    ∙ sym (all-printed (calls_of l) (code_of l) answers)
    ∙ ap (λ (k : ℕ). all_lines k (code_of l) answers) g.same-calls
    ∙ ap (λ (k : ℕ). all_lines (calls_of first) k answers) g.same_code
