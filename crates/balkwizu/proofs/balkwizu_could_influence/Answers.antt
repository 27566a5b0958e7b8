use Rattle.std.proofs.Common.{arith}
use Rattle.balkwizu.proofs.Halves.{influence-few}
use Rattle.balkwizu.proofs.balkwizu_could_influence.Goals as goal

pub one_word-requires-clause-few : goal.one_word-requires-clause-few
one_word-requires-clause-few c = omega (arith, c.unwrap_or.ensures, influence-few _ _ _ _ c.could_influence-set.ensures)
