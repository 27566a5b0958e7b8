-- `repair_by_copy` meets its contract: each answer is the required one for the mended copy. Assumes nothing.
use mathlib.Core.Path.{sym, ◌∙◌}
use native.Mathlib.Omega.{arith}
use Rattle.repair.proofs.Outcomes.{bad-frame, count_fits, list-too-short, room, done}
use Rattle.repair.proofs.repair_by_copy.Goals as goal

pub returns-then-not-mend_copy : goal.returns-then-not-mend_copy
returns-then-not-mend_copy c = bad-frame _ _ (sym c.mend_copy.ensures.value ∙ c.if-not-mend_copy.true)

pub overflow_mul-count : goal.overflow_mul-count
overflow_mul-count c =
    let can = sym c.mend_copy.ensures.value ∙ c.if-not-mend_copy.false in
    omega (arith, count_fits _ c.args.list.now can _ c.mend_copy.ensures.copy_after _ c.count_differing-count.ensures)

pub returns-then-list-count : goal.returns-then-list-count
returns-then-list-count c =
    let can = sym c.mend_copy.ensures.value ∙ c.if-not-mend_copy.false in
    list-too-short _ _ can _ c.mend_copy.ensures.copy_after _ c.count_differing-count.ensures c.if-list-count.true

pub replace-requires-clause-room : goal.replace-requires-clause-room
replace-requires-clause-room c =
    let can = sym c.mend_copy.ensures.value ∙ c.if-not-mend_copy.false in
    room _ _ can _ c.mend_copy.ensures.copy_after _ c.count_differing-count.ensures c.if-list-count.false

pub returns : goal.returns
returns c =
    let can = sym c.mend_copy.ensures.value ∙ c.if-not-mend_copy.false in
    done _ _ can _ c.mend_copy.ensures.copy_after _ c.count_differing-count.ensures c.if-list-count.false _ _ c.replace.ensures.table_after c.replace.ensures.list_after
