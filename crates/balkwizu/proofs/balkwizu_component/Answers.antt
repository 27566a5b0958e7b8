use Rattle.std.proofs.Common.{arith}
use Rattle.balkwizu.proofs.Halves.{members-few}
use Rattle.balkwizu.proofs.balkwizu_component.Goals as goal

pub one_word-requires-clause-few : goal.one_word-requires-clause-few
one_word-requires-clause-few c = omega (arith, c.unwrap_or.ensures, members-few _ _ _ c.component_of-members.ensures)
