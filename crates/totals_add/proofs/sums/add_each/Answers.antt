-- `sums::add_each` meets its contract. Assumes nothing.
use Rattle.std.proofs.Common.{ℕ, ◌+◌, ◌%◌, ◌^◌, ◌<◌, List, get_or, take, set, sym, ap, ap₂, ◌∙◌, arith, length-take, get_or-take}
use Rattle.totals_add.proofs.SumLaws.{added_none, added_next}
use Rattle.totals_add.proofs.sums.add_each.Goals as goal

pub loop-e-init : goal.loop-e-init
loop-e-init c = sym (added_none _ _)

pub loop-e-preserved : goal.loop-e-preserved
loop-e-preserved c =
    let e = c.loop-e.e in
    let m = c.args.m in
    let counts = c.args.counts.now in
    let below : e < m = omega (arith, simp length-take at c.loop-e-test.true) in
    let v = (get_or c.loop-e.totals e 0 + get_or (take m counts) e 0) % 2 ^ 64 in
    ap (λ (xs : List ℕ). set xs e v) c.loop-e.invariant
    ∙ added_next c.args.totals.now (λ i. get_or counts i 0) e v (omega arith)
    (ap₂ (λ (x y : ℕ). (x + y) % 2 ^ 64) (ap (λ (xs : List ℕ). get_or xs e 0) c.loop-e.invariant) (get_or-take m counts e 0 below))
