-- `sums::losses` meets its contract. Assumes nothing.
use Rattle.std.proofs.Common.{◌≡◌, ◌<◌, get_or, take, refl, arith, length-set, length-take, get_or-take}
use Rattle.totals_add.proofs.SumLaws.{balances-next}
use Rattle.totals_add.proofs.sums.losses.Goals as goal

pub loop-e-init : goal.loop-e-init
loop-e-init c = (refl, λ e l. absurd (omega arith))

pub loop-e-preserved : goal.loop-e-preserved
loop-e-preserved c =
    let e = c.loop-e.e in
    let below : e < c.args.m = omega (arith, simp length-take at c.loop-e-test.true) in
    let sent : get_or (take c.args.m c.args.counted.now.sent) e 0 ≡ get_or c.args.counted.now.sent e 0 = get_or-take _ _ e 0 below in
    (simp length-set c.loop-e.invariant.0, balances-next e _ _ _ _ c.loop-e.lost _ c.loop-e.invariant.1 (omega arith) (omega (arith, c.requires.enough e below)))
