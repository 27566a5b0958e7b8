-- The names passed are new, and their flags are set.
use Rattle.std.proofs.Common.{refl, sym, ◌∙◌}
use Rattle.machine.proofs.Below.{all-fails}
use Rattle.table_check.specs.Names.{all_different}
use Rattle.table_words.proofs.Scan.{scan-start, scan-next, scan-end}
use Rattle.table_check.proofs.Flags.{flag-start, flag-next}
use Rattle.table_check.proofs.names.many_different.Goals as goal

pub loop-e-init : goal.loop-e-init
loop-e-init c = (scan-start _ _, flag-start _ _ refl)

pub returns-then-not-is_new_by_flags : goal.returns-then-not-is_new_by_flags
unfolding all_different
returns-then-not-is_new_by_flags c =
    sym (all-fails _ _ _ c.loop-e-test.true (sym c.is_new_by_flags.ensures ∙ c.if-not-is_new_by_flags.true))

pub loop-e-preserved : goal.loop-e-preserved
loop-e-preserved c =
    (scan-next _ _ _ _ _ c.loop-e.invariant.0 c.loop-e-test.true (sym c.if-not-is_new_by_flags.false ∙ c.is_new_by_flags.ensures), flag-next _ _ _ _ c.loop-e.invariant.1 c.flag_of-flag.ensures)

pub returns : goal.returns
unfolding all_different
returns c = scan-end _ _ _ _ c.loop-e.invariant.0 c.loop-e-test.false
