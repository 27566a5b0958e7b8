-- `rows::fill_rows` meets its contract: one row after the other. Assumes nothing.
use Rattle.holders.proofs.Filled.{Gathered}
use Rattle.holders.proofs.rows.fill_rows.Given as goal

abbrev pub invariant-loop-h : goal.invariant-loop-h
invariant-loop-h l = Gathered l.table l.n l.holders l.h
