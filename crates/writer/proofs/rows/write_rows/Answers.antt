-- `rows::write_rows` meets its contract: the calls are those of the rows, one for each index. Assumes nothing.
use mathlib.Core.Path.{◌≡◌, ◌∙◌}
use Prim.Native.Nat.{◌*◌}
use borrow.Author.Rules.{rules}
use native.Mathlib.Omega.{arith}
use lib.ListN.{length}
use Rattle.writer_theory.specs.Rows.{no_call, call_at, rows_handed_in}
use Rattle.writer.proofs.RowAt.{rows-count, row-given}
use Rattle.writer.proofs.rows.write_rows.Goals as goal

pub returns : goal.returns
returns c =
    let rows = c.args.rows.now in
    let count : length (rows_handed_in rows) ≡ c.div_ceil-n.result = omega (arith, c.div_ceil-n.ensures, (rows-count rows).0, (rows-count rows).1) in
    rw count
    (c.write_each.ensures (rows_handed_in rows)
    (record {
      count = count;
      each = λ i call l is.
          let e : call ≡ call_at rows (5 * i) = search rules in
          e ∙ row-given rows i no_call (omega (arith, l, c.div_ceil-n.ensures));
    }))
