-- The rows hold, each by computation. Assumes nothing.
use mathlib.Core.Path.{refl}
use Rattle.machine.specs.Call.{kind_of, wants_second}
use Rattle.writer_theory.specs.Words.{fields_of, within_bits, first_word, field_words, fits, encoded_words, written}
use Rattle.writer_theory.specs.Write.{unfit_from, first_unfit, too_long, words_put, writing}
use Rattle.writer_theory.specs.Rows.{where_zero, of_columns, row_call, rows_handed_in}
use Rattle.writer_theory.specs.RowExamples.{EachKindHandedIn, NoCallsHandedIn, EveryRow, written_rows}

pub each-kind : EachKindHandedIn
unfolding kind_of where_zero of_columns row_call rows_handed_in
each-kind = refl

pub no-calls : NoCallsHandedIn
unfolding kind_of where_zero of_columns row_call rows_handed_in
no-calls = refl

pub every-row : EveryRow written_rows
unfolding kind_of wants_second fields_of within_bits first_word field_words fits encoded_words written unfit_from first_unfit too_long words_put writing
    where_zero of_columns row_call rows_handed_in
every-row = (refl, (refl, tt))
