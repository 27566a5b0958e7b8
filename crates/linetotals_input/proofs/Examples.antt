-- The rows hold, each by computation. Assumes nothing.
use mathlib.Core.Path.{refl}
use Rattle.input_words.specs.Bytes.{words_of, bytes_of}
use Rattle.linetotals_input.specs.Input.{stopped, then, head_wanted, list_first, lists_from}
use Rattle.linetotals_input.specs.Examples.{EveryRow, rows}

pub every-row : EveryRow rows
unfolding words_of bytes_of stopped then head_wanted list_first lists_from
every-row = (refl, (refl, (refl, (refl, (refl, (refl, (refl, (refl, (refl, (refl, (refl, (refl, tt))))))))))))
