-- The part of the input between the length word and the table's end has the table's words.
use Rattle.input_words.proofs.TableLaws.{fills_none, table-part}
use Rattle.input_words.proofs.table_input.read_table.Goals as goal

pub returns-then-bytes-lt4 : goal.returns-then-bytes-lt4
returns-then-bytes-lt4 c = fills_none _ _ c.if-bytes-lt4.true

pub returns : goal.returns
returns c = rw (table-part c.args.bytes.now c.table_end-end.result c.table_end-end.ensures) at c.fill.ensures
