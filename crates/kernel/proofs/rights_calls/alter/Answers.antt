-- `rights_calls::alter` meets its contract: the rights word is in the table. Assumes nothing.
use native.Mathlib.Omega.{arith}
use Rattle.kernel.proofs.Ranges.{right-in}
use Rattle.kernel.proofs.WrittenWords.{rights-written}
use Rattle.kernel.proofs.rights_calls.alter.Goals as goal

pub offset_bounds-table-at : goal.offset_bounds-table-at
offset_bounds-table-at c =
    let r = c.requires in
    omega (arith, right-in _ r.accepted _ r.same_domains _ _ _ r.known_holder r.known_target c.rights_at-at.ensures)

pub bounds-table-at : goal.bounds-table-at
bounds-table-at c =
    let r = c.requires in
    right-in _ r.accepted _ r.same_domains _ _ _ r.known_holder r.known_target c.rights_at-at.ensures

pub returns-clause-table_after : goal.returns-clause-table_after
returns-clause-table_after c = rights-written _ _ c.requires.same_domains _ _ _ _ c.rights_at-at.ensures
