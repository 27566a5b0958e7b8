-- Rights alone are gathered where the words passed are valid.
use Rattle.std.proofs.Common.{◌∙◌, arith}
use Rattle.table_words.proofs.Wrong.{scan-rights}
use Rattle.table_words.proofs.Scan.{scan-start, scan-end}
use Rattle.table_check.proofs.Places.{headed-rights, rights-part}
use Rattle.table_check.proofs.rights_ok.Goals as goal

pub bounds-table-0 : goal.bounds-table-0
bounds-table-0 c = omega (arith, headed-rights _ c.requires)

pub slice_bounds-words-end : goal.slice_bounds-words-end
slice_bounds-words-end c = headed-rights _ c.requires

pub loop-word-init : goal.loop-word-init
loop-word-init c = scan-start _ _

pub loop-word-preserved : goal.loop-word-preserved
loop-word-preserved c =
    scan-rights _ _ _ _ _ c.loop-word.invariant c.loop-word-test.true c.rights_wrong-wrong.ensures.valid

pub returns : goal.returns
returns c =
    scan-end _ _ _ _ c.loop-word.invariant c.loop-word-test.false ∙ rights-part _ c.requires
