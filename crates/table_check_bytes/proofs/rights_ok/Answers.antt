-- Rights alone are gathered where the words passed are valid.
use Rattle.std.proofs.Common.{ap, ◌∙◌, arith}
use Rattle.machine.specs.Table.{domains}
use Rattle.machine.specs.Check.{rights_word_ok, rights_ok}
use Rattle.table_words.proofs.Wrong.{scan-rights}
use Rattle.table_words.proofs.Scan.{scan-start, scan-end}
use Rattle.table_check_bytes.proofs.Places.{header_four, fitting-counted}
use Rattle.table_check_bytes.proofs.rights_ok.Goals as goal

pub nth_word-header-requires : goal.nth_word-header-requires
nth_word-header-requires c = header_four _ c.requires.header

pub loop-i-init : goal.loop-i-init
loop-i-init c = (scan-start _ _, omega (arith, (fitting-counted _ c.requires _ c.nth_word-header.ensures).room))

pub loop-i-preserved : goal.loop-i-preserved
loop-i-preserved c =
    (scan-rights _ _ _ _ _ c.loop-i.invariant.0 c.loop-i-test.true (c.rights_wrong-wrong.ensures.valid ∙ ap rights_word_ok c.nth_word.ensures), c.loop-i.invariant.1)

pub returns : goal.returns
unfolding rights_ok domains
returns c = rw c.nth_word-header.ensures at (scan-end _ _ _ _ c.loop-i.invariant.0 c.loop-i-test.false)
