-- The names passed differ.
use Rattle.std.proofs.Common.{sym, ap, not}
use borrow.Author.Tests.{eq-eqb, ne_eqb}
use Rattle.machine.proofs.Below.{all-fails}
use Rattle.table_check.specs.Names.{new_at}
use Rattle.table_words.proofs.Scan.{scan-start, scan-next, scan-end}
use Rattle.table_check.proofs.names.is_new.Goals as goal

pub loop-f-init : goal.loop-f-init
loop-f-init c = scan-start _ _

pub returns-then-names-f : goal.returns-then-names-f
unfolding new_at
returns-then-names-f c = sym (all-fails _ _ _ c.loop-f-test.true (ap not (eq-eqb _ _ c.if-names-f.true)))

pub loop-f-preserved : goal.loop-f-preserved
loop-f-preserved c =
    scan-next _ _ _ _ _ c.loop-f.invariant c.loop-f-test.true (sym (ap not (ne_eqb _ _ c.if-names-f.false)))

pub returns : goal.returns
unfolding new_at
returns c = scan-end _ _ _ _ c.loop-f.invariant c.loop-f-test.false
