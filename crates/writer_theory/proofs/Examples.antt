-- The rows hold, each by computation. Assumes nothing.
use mathlib.Core.Path.{refl}
use Rattle.machine.specs.Call.{wants_second}
use Rattle.writer_theory.specs.Words.{fields_of, within_bits, first_word, field_words, fits, encoded_words, written}
use Rattle.writer_theory.specs.Write.{unfit_from, first_unfit, too_long, words_put, writing}
use Rattle.writer_theory.specs.Examples.{EveryRow, EveryBadCall, rows}

pub every-row : EveryRow rows
unfolding wants_second fields_of within_bits first_word field_words fits encoded_words written unfit_from first_unfit too_long words_put writing
every-row = (refl, (refl, (refl, (refl, (refl, (refl, (refl, tt)))))))

pub every-bad-call : EveryBadCall
unfolding wants_second fields_of within_bits first_word field_words fits encoded_words written unfit_from first_unfit too_long words_put writing
every-bad-call = refl
