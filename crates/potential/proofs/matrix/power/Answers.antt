-- `matrix::power` meets its contract. Assumes nothing.
use native.Mathlib.Omega.{arith}
use Rattle.machine.proofs.Below.{one_bit}
use Rattle.potential.proofs.matrix.power.Goals as goal

pub returns : goal.returns
returns c = one_bit _ (omega (arith, c.requires))
