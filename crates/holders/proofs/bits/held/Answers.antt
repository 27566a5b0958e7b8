-- `bits::held` meets its contract. Assumes nothing.
use Rattle.machine.proofs.Right.{has-any, none-held}
use Rattle.holders.proofs.bits.held.Goals as goal

pub returns-then-rights-ne0 : goal.returns-then-rights-ne0
returns-then-rights-ne0 c = rw (has-any _ c.if-rights-ne0.true)

pub returns-else-rights-ne0 : goal.returns-else-rights-ne0
returns-else-rights-ne0 c = rw (c.if-rights-ne0.false, none-held)
