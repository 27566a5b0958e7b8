-- `put_all` meets its contract: the loop's invariant is the second pass, partly done (proofs/Passes). Assumes nothing.
use Prim.Native.Nat.{◌≤◌}
use native.Mathlib.Omega.{arith}
use Rattle.writer_theory.proofs.FieldWords.{one-or-two}
use Rattle.writer.proofs.Passes.{front-given, putting-start, putting-next, put-done}
use Rattle.writer.proofs.put_all.Goals as goal

pub loop-i-init : goal.loop-i-init
loop-i-init g c = (omega arith, λ cs given fit enough. putting-start cs _ fit)

pub overflow_add-at : goal.overflow_add-at
overflow_add-at g c =
    let most : c.width-at.result ≤ 2 = rw c.width-at.ensures (one-or-two _).1 in
    omega (arith, c.loop-i.invariant.0)

pub loop-i-preserved : goal.loop-i-preserved
loop-i-preserved g c =
    let most : c.width-at.result ≤ 2 = rw c.width-at.ensures (one-or-two _).1 in (
      omega (arith, c.loop-i.invariant.0),
      λ cs given fit enough. putting-next (c.loop-i.invariant.1 cs given fit enough) enough _
          (front-given given _ _ c.loop-i-test.true c.call_at-call.ensures) (omega (arith, given.count)) _ _ c.width-at.ensures c.put.ensures c.put.auto.list,
    )

pub returns : goal.returns
returns g c cs given fit enough = put-done (c.loop-i.invariant.1 cs given fit enough) (omega (arith, given.count))
