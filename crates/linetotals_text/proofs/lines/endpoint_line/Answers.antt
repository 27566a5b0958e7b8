-- `linetotals_text::lines::endpoint_line` meets its contract: it writes the line piece by piece (`then`). Assumes nothing.
use Rattle.text.specs.Ascii.{ascii}
use Rattle.text.proofs.WriteLaws.{then, writes-length}
use Rattle.linetotals_text.specs.Lines.{endpoint_line}
use Rattle.linetotals_text.proofs.lines.endpoint_line.Goals as goal

pub returns : goal.returns
unfolding endpoint_line ascii
returns c =
    then
    (then
    (then
    (then
    (then (then c.put_labelled-endpoint_end.ensures c.put_labelled-sent_end.ensures) c.put_labelled-received_end.ensures)
    c.put_labelled-lost_end.ensures)
    c.put_labelled-start_end.ensures)
    c.put_labelled-end_end.ensures)
    c.put.ensures

pub shape_of-out : goal.shape_of-out
unfolding endpoint_line ascii
shape_of-out c = writes-length (returns c)
