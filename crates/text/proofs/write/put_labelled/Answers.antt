-- `text::write::put_labelled` meets its contract (`then`). Assumes nothing.
use Rattle.text.specs.Decimal.{labelled}
use Rattle.text.proofs.WriteLaws.{then}
use Rattle.text.proofs.write.put_labelled.Goals as goal

pub returns : goal.returns
unfolding labelled
returns c = then c.put-next.ensures c.put_decimal.ensures
