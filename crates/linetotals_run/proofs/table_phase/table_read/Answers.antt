-- `table_phase::table_read` meets its contract: the words at the front of the lent table are those that were read. Assumes nothing.
use Rattle.std.proofs.Common.{◌*◌, ◌≤◌, length, take, length-take, arith}
use borrow.Author.Tests.{le-ltb}
use native.Mathlib.Nat.{sub-zero}
use Rattle.text.proofs.WriteLaws.{fills-part}
use Rattle.input_words.specs.Bytes.{words_of}
use Rattle.input_words.proofs.WordLaws.{length-words_of}
use Rattle.linetotals_run.specs.Step.{table_read}
use Rattle.linetotals_run.proofs.table_phase.table_read.Goals as goal

pub returns-clause-value : goal.returns-clause-value
unfolding table_read
returns-clause-value c stage =
    let end = 4 * c.args.n in
    let bytes = c.args.bytes.now in
    let filled = rw (sub-zero end) at c.fill-words.ensures in
    let few : length (words_of (take end bytes)) ≤ length c.args.table.now = omega (arith, length-words_of (take end bytes), length-take end bytes) in
    rw (le-ltb (length bytes) end c.if-bytes-end.false, ← fills-part few filled) (c.table_checked.ensures stage)
