-- The names passed are new.
use Rattle.std.proofs.Common.{sym, ◌∙◌}
use Rattle.machine.proofs.Below.{all-fails}
use Rattle.table_check.specs.Names.{all_different}
use Rattle.table_words.proofs.Scan.{scan-start, scan-next, scan-end}
use Rattle.table_check.proofs.names.few_different.Goals as goal

pub loop-e-init : goal.loop-e-init
loop-e-init c = scan-start _ _

pub returns-then-not-is_new : goal.returns-then-not-is_new
unfolding all_different
returns-then-not-is_new c =
    sym (all-fails _ _ _ c.loop-e-test.true (sym c.is_new.ensures ∙ c.if-not-is_new.true))

pub loop-e-preserved : goal.loop-e-preserved
loop-e-preserved c =
    scan-next _ _ _ _ _ c.loop-e.invariant c.loop-e-test.true (sym c.if-not-is_new.false ∙ c.is_new.ensures)

pub returns : goal.returns
unfolding all_different
returns c = scan-end _ _ _ _ c.loop-e.invariant c.loop-e-test.false
