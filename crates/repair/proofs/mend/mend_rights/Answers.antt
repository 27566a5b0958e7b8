-- `mend_rights` meets its contract: the rights words passed are mended. Assumes nothing.
use mathlib.Core.Path.{subst}
use native.Mathlib.Nat.{le_antisymm}
use native.Mathlib.Omega.{arith}
use Rattle.machine.specs.Table.{domains}
use Rattle.table_check.proofs.Places.{headed-size, headed-rights}
use Rattle.repair.specs.Passes.{RightsMended}
use Rattle.repair.proofs.MendPasses.{rights-start}
use Rattle.repair.proofs.mend.mend_rights.Goals as goal

pub loop-i-init : goal.loop-i-init
loop-i-init c = (rights-start _, omega arith, headed-rights _ c.requires)

pub returns : goal.returns
unfolding domains
returns c =
    let l = c.loop-i in
    subst (RightsMended _ _) (le_antisymm l.invariant.1 c.loop-i-test.false) l.invariant.0

pub bounds-table-0 : goal.bounds-table-0
bounds-table-0 c = omega (arith, headed-size _ c.requires)
