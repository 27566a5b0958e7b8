-- `linetotals_text::lines::last_line` meets its contract: it writes the line piece by piece (`then`). Assumes nothing.
use Rattle.text.specs.Ascii.{ascii}
use Rattle.text.proofs.WriteLaws.{then}
use Rattle.linetotals_text.specs.Lines.{last_line}
use Rattle.linetotals_text.proofs.lines.last_line.Goals as goal

pub returns : goal.returns
unfolding last_line ascii
returns c =
    rw (← c.from.ensures) (then (then c.put_labelled-lists_end.ensures c.put_labelled-code_end.ensures) c.put.ensures)
