-- The rows of handing in and turns hold, each by computation (specs/Examples). Assumes nothing.
use mathlib.Core.Path.{refl}
use Rattle.machine.specs.Below.{words_below, bits_below}
use Rattle.machine.specs.Holders.{holders_of}
use Rattle.machine.proofs.Everything.{everything}
use Rattle.turns_theory.specs.Turns as turns
use Rattle.turns_theory.specs.History as history
use Rattle.turns_theory.specs.Examples.{shown, EveryTurnRow, turn_rows}

pub every-turn-row : EveryTurnRow turn_rows
unfolding everything words_below bits_below holders_of
    turns.begun turns.replaced turns.is_one_of turns.hand_in_code turns.handed_in turns.waits turns.first_pending_from turns.or_else
    turns.first_waiting turns.serves_oldest turns.serves_at turns.turn_of turns.after_turn turns.table_after turns.answer_of
    turns.holders_after_turn turns.answer_code turns.turn_code
    history.event_code history.next_turn history.done history.after_event history.layer_after history.along_with history.turn_at
    history.answer_at history.holders_of_turn history.holders_at shown
every-turn-row = (refl, (refl, (refl, (refl, (refl, (refl, (refl, (refl, (refl, (refl, (refl, (refl, (refl, (refl, (refl, (refl, (refl, (refl, (refl, (refl, (refl, (refl, (refl, (refl, (refl, (refl, (refl, (refl, (refl, (refl, (refl, (refl, (refl, (refl, tt))))))))))))))))))))))))))))))))))
