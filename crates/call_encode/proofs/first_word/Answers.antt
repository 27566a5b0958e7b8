-- `first_word` meets its contract: it is the definition. Assumes nothing.
use mathlib.Core.Path.{refl}
use Rattle.writer_theory.specs.Words.{first_word}
use Rattle.call_encode.proofs.first_word.Goals as goal

pub returns : goal.returns
unfolding first_word
returns c = refl
