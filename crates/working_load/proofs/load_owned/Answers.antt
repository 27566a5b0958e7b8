-- `load_owned` meets its contract: the bits are set one after the other. Assumes nothing.
use Rattle.std.proofs.Common.{ℕ, ◌%◌, ◌<◌, ap, arith}
use Rattle.machine.specs.Word.{field_b}
use Rattle.reachability.proofs.Bits.{bit_is}
use Rattle.working_load.proofs.Gathering.{gather-start, gather-room, gather-next, gather-end}
use Rattle.working_load.proofs.load_owned.Goals as goal

pub loop-e-init : goal.loop-e-init
loop-e-init c = gather-start _ _

pub overflow_add-owned : goal.overflow_add-owned
overflow_add-owned c =
    let few : c.loop-e.e < 32 = omega arith in
    gather-room _ _ _ _ c.loop-e.invariant few _ _ (ap (λ (w : ℕ). field_b w % 16) c.endpoint_word-info.ensures) (bit_is few c.bit.ensures)

pub loop-e-preserved : goal.loop-e-preserved
loop-e-preserved c =
    let few : c.loop-e.e < 32 = omega arith in
    gather-next _ _ _ _ c.loop-e.invariant few _ _ (ap (λ (w : ℕ). field_b w % 16) c.endpoint_word-info.ensures) (bit_is few c.bit.ensures)

pub returns : goal.returns
returns c = gather-end _ _ _ _ _ c.loop-e.invariant (omega arith)
