-- The rows hold, each by computation. Assumes nothing.
use mathlib.Core.Path.{refl}
use Rattle.machine.proofs.Everything.{everything}
use Rattle.text.specs.Ascii.{ascii}
use Rattle.input_words.specs.Bytes.{words_of, bytes_of}
use Rattle.text.specs.Decimal.{digits_within, decimal, labelled}
use Rattle.input_words.specs.TableInput.{no_table, table_of, after_table}
use Rattle.linerun_input.specs.Input.{list_of, left_over, unreadable}
use Rattle.linerun_text.specs.Lines.{first_line, call_line}
use Rattle.linerun_report.specs.Lines.{call_lines, all_lines}
use Rattle.linerun_report.specs.Report.{answer_space, holders_space, outcome_lines, answered, report}
use Rattle.linerun_report.specs.Examples.{EveryRow, rows}

pub every-row : EveryRow rows
unfolding everything ascii words_of bytes_of digits_within decimal labelled no_table table_of after_table list_of left_over unreadable first_line
    call_line call_lines all_lines answer_space holders_space outcome_lines answered report
every-row = (refl, tt)
