-- `parts::put_lines` meets its contract: the first line and then calls' lines, or these only. Assumes nothing.
use Prim.Native.Nat.{ℕ, zero, suc, ◌+◌, ◌-◌, ◌*◌, ◌≤◌, ◌<◌}
use mathlib.Core.Path.{◌≡◌, refl, ◌∙◌}
use mathlib.Core.List.{List, []}
use native.Mathlib.Nat.{sub-zero}
use native.Mathlib.Omega.{arith}
use Rattle.text.proofs.WriteLaws.{then, writes-length, writes_nothing}
use Rattle.linerun_text.proofs.LineLaws.{length-first_line}
use Rattle.linerun_report.specs.Lines.{most_bytes, lines_from, lines_between}
use Rattle.linerun_report.proofs.parts.put_lines.Goals as goal

-- lines from one after the first on are those of calls
calls_alone : (calls code : ℕ) (answers : List ℕ) (line next : ℕ) → 0 < line
    → lines_between calls code answers line next ≡ lines_from answers (line - 1) (next - 1 - (line - 1))
unfolding lines_between
calls_alone calls code answers zero next h = absurd (omega arith)
calls_alone calls code answers (suc i) next h =
    let call : suc i - 1 ≡ i = omega arith in
    let count : next - 1 - i ≡ next - suc i = omega arith in
    rw (call, count) refl

-- there are none before the line from which they would begin
none_between : (calls code : ℕ) (answers : List ℕ) (line next : ℕ) → 0 < line → next ≤ line → lines_between calls code answers line next ≡ []
unfolding lines_from
none_between calls code answers line next h past =
    let none : next - 1 - (line - 1) ≡ 0 = omega arith in
    calls_alone calls code answers line next h ∙ rw none refl

-- they have few bytes
few_bytes : (r line next : ℕ) → 0 < line → r ≤ 0 + 66 * (next - 1 - (line - 1)) → r ≤ most_bytes (next - line)
few_bytes r line next h few = omega arith

positive : (n : ℕ) → (n ≡ 0 → ⊥) → 0 < n
positive zero h = absurd (h refl)
positive (suc n) h = omega arith

pub call_lines-requires : goal.call_lines-requires
call_lines-requires c =
    let first = c.first_line-first_end in
    let start = c in
    let short = length-first_line start.args.calls start.args.code (omega arith) (omega arith) in
    record {
      from_le_to = (omega arith, omega arith);
      to_in_bounds = omega arith;
      start_in_bounds = omega (arith, first.ensures.place, writes-length first.ensures, short);
    }

pub returns-then-line-eq0 : goal.returns-then-line-eq0
unfolding lines_between
returns-then-line-eq0 c =
    let lines = c.call_lines in
    let first = c.first_line-first_end in
    let tested = c in
    let start = tested in
    let short = length-first_line start.args.calls start.args.code (omega arith) (omega arith) in
    let none : start.args.line ≡ 0 = omega (arith, tested.if-line-eq0.true) in
    record {
      writes = rw none (then first.ensures (rw (sub-zero (start.args.next - 1)) at lines.ensures.writes));
      upper_bound = omega (arith, lines.ensures.upper_bound, first.ensures.place, short, none);
    }

pub returns-then-next-line : goal.returns-then-next-line
returns-then-next-line c =
    let tested = c in
    let start = tested in
    let some = positive start.args.line tested.if-line-eq0.false in
    let past : start.args.next ≤ start.args.line = omega arith in
    record {
      writes = rw (none_between _ _ _ _ _ some past) (writes_nothing 0 start.args.out.now (omega arith));
      upper_bound = omega arith;
    }

pub returns : goal.returns
returns c =
    let lines = c.call_lines-2 in
    let tested = c in
    let start = tested in
    let some = positive start.args.line tested.if-line-eq0.false in
    record {
      writes = rw (calls_alone _ _ _ _ _ some) lines.ensures.writes;
      upper_bound = few_bytes lines.result start.args.line start.args.next some lines.ensures.upper_bound;
    }
