-- `linerun_text::lines::first_line` meets its contract: it writes the line piece by piece (`then`). Assumes nothing.
use Rattle.text.specs.Ascii.{ascii}
use Rattle.text.proofs.WriteLaws.{then}
use Rattle.linerun_text.specs.Lines.{first_line}
use Rattle.linerun_text.proofs.lines.first_line.Goals as goal

pub returns : goal.returns
unfolding first_line ascii
returns c =
    rw (← c.from.ensures)
    (then (then c.put_labelled-calls_end.ensures c.put_labelled-code_end.ensures) c.put.ensures)
