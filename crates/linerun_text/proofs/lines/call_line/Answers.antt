-- `linerun_text::lines::call_line` meets its contract: it writes the line piece by piece (`then`). Assumes nothing.
use Rattle.text.specs.Ascii.{ascii}
use Rattle.text.proofs.WriteLaws.{then, writes-length}
use Rattle.linerun_text.specs.Lines.{call_line}
use Rattle.linerun_text.proofs.lines.call_line.Goals as goal

pub returns : goal.returns
unfolding call_line ascii
returns c =
    rw (← c.from.ensures, ← c.from-2.ensures, ← c.from-3.ensures, ← c.from-4.ensures, ← c.from-5.ensures)
    (then
    (then
    (then
    (then
    (then (then c.put_labelled-call_end.ensures c.put_labelled-caller_end.ensures) c.put_labelled-kind_end.ensures)
    c.put_labelled-code_end.ensures)
    c.put_labelled-first_end.ensures)
    c.put_labelled-second_end.ensures)
    c.put.ensures)

pub shape_of-out : goal.shape_of-out
unfolding call_line ascii
shape_of-out c = writes-length (returns c)
