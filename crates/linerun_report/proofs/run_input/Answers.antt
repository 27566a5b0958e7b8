-- The two cases of the definition: what code 7 refuses, and what the entry answers.
use Rattle.std.proofs.Common.{ℕ, ◌≡◌, Result, Ok, Err, refl, sym, ap, ◌∙◌}
use Rattle.std.specs.Result.{IsErr, IsErrAnd}
use Rattle.machine.specs.Entry.{refusal}
use Rattle.input_words.proofs.TableLaws.{whole, length-table_of}
use Rattle.linerun_input.proofs.InputLaws.{readable-whole}
use Rattle.linerun_report.proofs.ReportLaws.{answered-unreadable, answered_run}
use Rattle.run_result.specs.Entry.{entry_refusal_code}
use Rattle.run_result.specs.declared.EntryRefusal.{EntryRefusal}
use Rattle.linerun_report.specs.Cursor.{refusal_code, ran_calls, ran_code}
use Rattle.linerun_report.specs.declared.Refusal.{Refusal}
use Rattle.linerun_report.specs.declared.Refusal.TheVariants.{Entry}
use Rattle.linerun_report.proofs.run_input.Goals as goal

pub returns-then-unreadable : goal.returns-then-unreadable
unfolding refusal
returns-then-unreadable c =
    let unread = answered-unreadable c.args.bytes.now c.args.answers.now (sym c.unreadable.ensures ∙ c.if-unreadable.true) in
    record { calls = rw unread refl; code = rw unread refl; answers_after = rw unread refl }

-- a refusal at the entry is passed on: no call is counted, and its code is the entry's
passed_on : (e : EntryRefusal) (r : Result ℕ Refusal) → IsErr r × IsErrAnd r (λ x. x ≡ Entry e) → (ran_calls r ≡ 0) × (ran_code r ≡ entry_refusal_code e)
passed_on e (Ok n) h = absurd h.1
passed_on e (Err x) h = (refl, ap refusal_code h.1)

pub returns-in_err-calls : goal.returns-in_err-calls
returns-in_err-calls c =
    let bytes = c.args.bytes.now in
    let readable = sym c.unreadable.ensures ∙ c.if-unreadable.false in
    let fits = length-table_of bytes (whole bytes (readable-whole bytes readable)) in
    let all = answered_run bytes readable fits c.read_table-words.ensures refl (rw c.after_table.ensures at c.fill-listed.ensures)
    c.holders_lent-lent.ensures c.in_err-calls.ensures in
    let on = passed_on c.in_err-calls.field-0.0 c.from_residual.result c.from_residual.ensures in
    record { calls = on.0 ∙ all.0; code = on.1 ∙ all.1; answers_after = all.2 }

pub returns : goal.returns
returns c =
    let bytes = c.args.bytes.now in
    let readable = sym c.unreadable.ensures ∙ c.if-unreadable.false in
    let fits = length-table_of bytes (whole bytes (readable-whole bytes readable)) in
    let all = answered_run bytes readable fits c.read_table-words.ensures refl (rw c.after_table.ensures at c.fill-listed.ensures)
    c.holders_lent-lent.ensures c.in_ok-calls.ensures in
    record { calls = all.0; code = all.1; answers_after = all.2 }
