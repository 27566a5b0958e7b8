use Rattle.std.proofs.Common.{arith}
use Rattle.balkwizu.proofs.Halves.{asked-few}
use Rattle.balkwizu.proofs.balkwizu_who_reaches.Goals as goal

pub one_word-requires-clause-few : goal.one_word-requires-clause-few
one_word-requires-clause-few c = omega (arith, c.unwrap_or.ensures, asked-few _ _ _ c.who_reaches-domains.ensures)
