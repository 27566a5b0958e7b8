-- `places::cell_at` meets its contract: the index fits, whatever the holder and the target are. Assumes nothing.
use Prim.Native.Nat.{◌*◌, ◌≤◌}
use native.Mathlib.Omega.{arith}
use Rattle.table_layout.proofs.Places.{row_fits}
use Rattle.potential.proofs.places.cell_at.Goals as goal

pub overflow_mul-result : goal.overflow_mul-result
overflow_mul-result c = omega (arith, (let the_small : c.args.holder * c.args.n ≤ 4294967295 * 4294967295 = row_fits _ _ c.ranges.holder.fits c.ranges.n.fits in the_small))

pub overflow_add-result : goal.overflow_add-result
overflow_add-result c = omega (arith, (let the_small : c.args.holder * c.args.n ≤ 4294967295 * 4294967295 = row_fits _ _ c.ranges.holder.fits c.ranges.n.fits in the_small))
