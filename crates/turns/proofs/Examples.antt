-- The rows of the beginning and of turns hold, each by computation (specs/Examples). Assumes nothing.
use mathlib.Core.Path.{refl}
use Rattle.machine.specs.Below.{words_below, bits_below}
use Rattle.machine.specs.Holders.{holders_of}
use Rattle.machine.specs.Entry.{holders_code}
use Rattle.machine.proofs.Everything.{everything}
use Rattle.kernel.specs.Step.{step_entry_code}
use Rattle.turns_theory.specs.Turns as order
use Rattle.turns_state.specs.Pending as pending
use Rattle.turns_state.specs.State as state
use Rattle.turns.specs.Codes.{then_code}
use Rattle.turns.specs.Promise.{state_code, begin_code, hand_in_code_on_state, turn_code_on_state, served_by, space_after, turn_made, turn_outcome}
use Rattle.turns.specs.Examples.{EveryRow, begin_rows, turn_rows}

pub every-begin-row : EveryRow begin_rows
unfolding everything words_below bits_below holders_of
    order.is_one_of order.waits order.first_pending_from order.or_else order.first_waiting order.serves_oldest order.serves_at order.turn_of
    order.table_after order.holders_after_turn order.answer_code
    pending.count pending.pending_in pending.enqueued pending.dequeued
    state.block state.set_block state.turns_in state.turn_in state.state_handed_in state.state_served state.state_after
    holders_code step_entry_code then_code state_code begin_code hand_in_code_on_state turn_code_on_state served_by space_after turn_made turn_outcome
every-begin-row = (record { same_code = refl; state = refl; same_holders = refl }, tt)

pub every-turn-row : EveryRow turn_rows
unfolding everything words_below bits_below holders_of
    order.is_one_of order.waits order.first_pending_from order.or_else order.first_waiting order.serves_oldest order.serves_at order.turn_of
    order.table_after order.holders_after_turn order.answer_code
    pending.count pending.pending_in pending.enqueued pending.dequeued
    state.block state.set_block state.turns_in state.turn_in state.state_handed_in state.state_served state.state_after
    holders_code step_entry_code then_code state_code begin_code hand_in_code_on_state turn_code_on_state served_by space_after turn_made turn_outcome
every-turn-row = (refl, tt)
