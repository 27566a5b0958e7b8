-- `rows::add_row` meets its contract: the words are written one after the other. Assumes nothing.
use Rattle.holders.specs.Rows.{with_row}
use Rattle.holders.proofs.Filled.{Written}
use Rattle.holders.proofs.rows.add_row.Given as goal

abbrev pub invariant-loop-g : goal.invariant-loop-g
invariant-loop-g l = Written (with_row l.table l.n l.h l.initial.holders) l.initial.holders l.holders l.g
