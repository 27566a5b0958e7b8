use Rattle.std.proofs.Common.{arith}
use Rattle.balkwizu.proofs.Halves.{ran-few}
use Rattle.balkwizu.proofs.balkwizu_run.Goals as goal

pub overflow_cast-unwrap_or : goal.overflow_cast-unwrap_or
overflow_cast-unwrap_or c = omega (arith, c.unwrap_or.ensures, ran-few _ _ _ _ _ _ _ _ c.run-ran.ensures)

pub one_word-requires-clause-few : goal.one_word-requires-clause-few
one_word-requires-clause-few c = omega (arith, c.unwrap_or.ensures, ran-few _ _ _ _ _ _ _ _ c.run-ran.ensures)
