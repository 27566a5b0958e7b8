-- `mended_rights` meets its contract: a sound word stays, a broken one has no right any more. Assumes nothing.
use mathlib.Core.Path.{sym, ◌∙◌}
use Rattle.repair_theory.proofs.Mended.{rights-kept, rights-cleared}
use Rattle.repair.proofs.mend.mended_rights.Goals as goal

pub returns-then-rights_word_ok : goal.returns-then-rights_word_ok
returns-then-rights_word_ok c = sym (rights-kept _ (sym c.rights_word_ok.ensures ∙ c.if-rights_word_ok.true))

pub returns-else-rights_word_ok : goal.returns-else-rights_word_ok
returns-else-rights_word_ok c = sym (rights-cleared _ (sym c.rights_word_ok.ensures ∙ c.if-rights_word_ok.false))
