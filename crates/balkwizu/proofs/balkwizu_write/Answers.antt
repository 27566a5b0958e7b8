-- `balkwizu::balkwizu_write` meets its contract: each result of `writer::rows::write_rows`, in one number, says the same outcome.
-- Assumes nothing.
use native.Mathlib.Omega.{arith}
use Rattle.std.proofs.Common.{ap, ◌∙◌}
use Rattle.std.specs.Prelude.{Ok, Err}
use Rattle.writer.specs.declared.WriteRefusal.TheVariants.{BadCall, TooLong}
use Rattle.writer.proofs.OneNumber.{says-outcome, bad-small}
use Rattle.balkwizu.proofs.balkwizu_write.Goals as goal

pub overflow_add-result : goal.overflow_add-result
overflow_add-result c =
    let wrote = c.write_rows in
    omega (arith, bad-small _ _ _ _ _ (c.in-Err-BadCall.is ∙ ap Err c.in-Err-BadCall.field-0-is) wrote.ensures)

pub returns-in-Ok : goal.returns-in-Ok
returns-in-Ok c =
    let wrote = c.write_rows in
    says-outcome _ _ _ (Ok _) _ c.in-Ok.is wrote.ensures

pub returns-in-Err-TooLong : goal.returns-in-Err-TooLong
returns-in-Err-TooLong c =
    let wrote = c.write_rows in
    says-outcome _ _ _ (Err TooLong) _ (c.in-Err-TooLong.is ∙ ap Err c.in-Err-TooLong.field-0-is) wrote.ensures

pub returns-in-Err-BadCall : goal.returns-in-Err-BadCall
returns-in-Err-BadCall c =
    let wrote = c.write_rows in
    says-outcome _ _ _ (Err (BadCall _)) _ (c.in-Err-BadCall.is ∙ ap Err c.in-Err-BadCall.field-0-is) wrote.ensures
