-- The rows hold, each by computation. Assumes nothing.
use mathlib.Core.Path.{refl}
use Rattle.machine.proofs.Everything.{everything}
use Rattle.text.specs.Ascii.{ascii}
use Rattle.text.specs.Decimal.{digits_within, decimal, labelled}
use Rattle.input_words.specs.Bytes.{words_of, bytes_of}
use Rattle.input_words.specs.TableInput.{no_table, table_of, after_table}
use Rattle.totals_theory.specs.Totals.{no_counts, together, list_totals, table_after_lists, totals}
use Rattle.linetotals_text.specs.Lines.{endpoint_line, last_line}
use Rattle.linetotals_input.specs.Input.{stopped, then, head_wanted, list_first, lists_from}
use Rattle.linetotals_theory.specs.Sheet.{totals_line, endpoint_lines, totals_lines, table_sheet, sheet}
use Rattle.linetotals_theory.specs.Examples.{EveryRow, rows}

pub every-row : EveryRow rows
unfolding everything ascii digits_within decimal labelled words_of bytes_of no_table table_of after_table no_counts together list_totals table_after_lists
    totals endpoint_line last_line stopped then head_wanted list_first lists_from totals_line endpoint_lines totals_lines table_sheet sheet
every-row = (refl, (refl, (refl, (refl, (refl, (refl, (refl, (refl, tt))))))))
