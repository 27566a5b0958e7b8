-- The rows of the holders hold, each by computation (specs/Examples). Assumes nothing.
use mathlib.Core.Path.{refl}
use Rattle.machine.specs.Below.{words_below, bits_below}
use Rattle.machine.specs.Holders.{holders_of}
use Rattle.machine.proofs.Everything.{everything}
use Rattle.reachability.specs.Closure.{with_words, widened, rounds, closed}
use Rattle.holders_theory.specs.Noted.{with_bit, noted, room_for, filled, holders_after, holders_after_calls}
use Rattle.holders_theory.specs.Asked.{bits_within, askable, ask_code, asked}
use Rattle.holders_theory.specs.Examples.{EveryHoldersRow, table_rows, change_rows, asking_rows}

pub every-table-row : EveryHoldersRow table_rows
unfolding everything words_below bits_below holders_of with_bit noted room_for filled holders_after holders_after_calls
every-table-row = (refl, (refl, (refl, (refl, (refl, (refl, (refl, (refl, tt))))))))

pub every-change-row : EveryHoldersRow change_rows
unfolding everything with_bit noted
every-change-row = (refl, (refl, (refl, (refl, (refl, (refl, tt))))))

pub every-asking-row : EveryHoldersRow asking_rows
unfolding everything with_words widened rounds closed bits_within askable ask_code asked
every-asking-row = ((refl, refl), ((refl, refl), ((refl, refl), ((refl, refl), ((refl, refl), ((refl, refl), ((refl, refl), ((refl, refl), ((refl, refl), tt)))))))))
