-- The first i words are at the front.
use mathlib.Core.Path.{◌≡◌}
use lib.ListN.{take}
use Rattle.input_words.specs.Bytes.{words_of}
use Rattle.text.specs.Write.{overwrite}
use Rattle.input_words.proofs.words.fill.Given as goal

abbrev pub invariant-loop-i : goal.invariant-loop-i
invariant-loop-i l = l.words ≡ overwrite 0 (take l.i (words_of l.bytes)) l.initial.words
