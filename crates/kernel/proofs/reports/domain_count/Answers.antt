-- `reports::domain_count` meets its contract: n is eight bits of a word. Assumes nothing.
use native.Mathlib.Omega.{arith}
use Rattle.machine.specs.Table.{domains}
use Rattle.kernel.proofs.reports.domain_count.Goals as goal

pub overflow_cast-result : goal.overflow_cast-result
unfolding domains
overflow_cast-result c = omega (arith, c.domains-n.ensures)
