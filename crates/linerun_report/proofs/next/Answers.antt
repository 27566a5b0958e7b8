-- A part is given and the cursor is after it, or nothing is written.
use Rattle.std.proofs.Common.{sym, ◌∙◌, arith}
use Rattle.linerun_report.specs.Lines.{line_after}
use Rattle.linerun_report.proofs.CursorLaws.{stays, enough-lent, goes_on}
use Rattle.linerun_report.proofs.next.Goals as goal

pub returns-then-not-gives : goal.returns-then-not-gives
returns-then-not-gives c =
    let all = stays c.args.lines c.args.answers.now c.args.out.now (sym c.gives.ensures ∙ c.if-not-gives.true) in
    record { value = all.0; out_after = all.1.0; result_in_bounds = all.1.1 }

pub line_after-next-requires : goal.line_after-next-requires
line_after-next-requires c =
    let lent = enough-lent _ _ _ (sym c.gives.ensures ∙ c.if-not-gives.false) in
    omega (arith, lent.0, c.calls-calls.ensures)

pub put_lines-given-requires : goal.put_lines-given-requires
unfolding line_after
put_lines-given-requires c =
    let lent = enough-lent _ _ _ (sym c.gives.ensures ∙ c.if-not-gives.false) in
    let calls = c.calls-calls.ensures in
    let next = c.line_after-next.ensures in
    record {
      next_nonzero = (omega (arith, next), omega (arith, next), omega (arith, lent.0, calls));
      calls_in_bounds = omega (arith, lent.1, calls);
      line_in_bounds = omega (arith, next, lent.2);
    }

pub returns : goal.returns
unfolding line_after
returns c =
    let put = c.put_lines-given.ensures in
    let given = sym c.gives.ensures ∙ c.if-not-gives.false in
    let lent = enough-lent _ _ _ given in
    let next = c.line_after-next.ensures in
    let writes = rw (c.calls-calls.ensures, c.code.ensures) at put.writes in
    let all =
    goes_on c.args.lines c.args.answers.now c.args.out.now given (rw c.calls-calls.ensures at next) writes
    (omega (arith, put.upper_bound, next, lent.2)) in
    record { value = all.0; out_after = all.1.0; result_in_bounds = all.1.1 }
