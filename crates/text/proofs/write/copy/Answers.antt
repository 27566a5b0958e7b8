-- The part of the buffer that is copied to is overwritten.
use Rattle.text.proofs.WriteLaws.{overwrite-part}
use Rattle.text.proofs.write.copy.Goals as goal

pub returns : goal.returns
returns c = overwrite-part _ _ _ _ c.copy_from_slice.ensures.after c.requires.there c.requires.fits
