-- `move_down` meets its contract: the words after the first few have moved to the front. Assumes nothing.
use Prim.Native.Nat.{◌+◌, ◌-◌}
use native.Mathlib.Omega.{arith}
use Rattle.turns_state.proofs.Laws.{dequeue-end}
use Rattle.turns_state.proofs.pending.move_down.Goals as goal

pub returns : goal.returns
returns c =
    let few = c.args.few in
    let pending = c.count-pending.result in
    let is = c.count-pending.ensures.value in
    dequeue-end c.args.block.now _ few (1 + pending - (1 + few)) (pending - few) c.copy_within.ensures.after (omega (arith, is)) (omega (arith, is)) c.requires
