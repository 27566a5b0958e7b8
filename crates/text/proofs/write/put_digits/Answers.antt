-- What std prints of a number is its decimal.
use Rattle.std.proofs.Common.{◌∙◌}
use Rattle.text.proofs.Printed.{printed}
use Rattle.text.proofs.write.put_digits.Goals as goal

pub returns : goal.returns
returns c = rw (c.as_bytes.ensures.value ∙ c.format.ensures.text ∙ printed c.args.x c.ranges.x.fits) at c.put.ensures
