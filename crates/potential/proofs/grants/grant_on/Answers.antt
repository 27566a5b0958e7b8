-- `grants::grant_on` meets its contract. Assumes nothing.
use Prim.Native.Nat.{◌<◌}
use mathlib.Core.Path.{refl, sym, ◌∙◌}
use borrow.Author.Rules.{rules}
use lib.ListN.{length}
use Rattle.potential.proofs.Cells.{at-below, grant-done, grant-not-done}
use Rattle.potential.proofs.grants.grant_on.Goals as goal

pub offset_bounds-rights-from : goal.offset_bounds-rights-from
offset_bounds-rights-from c =
    let below : c.cell_at-from.result < length c.args.rights.now = at-below _ _ _ _ _ c.requires.size c.requires.giver c.requires.target c.cell_at-from.ensures in
    search rules

pub bounds-rights-from : goal.bounds-rights-from
bounds-rights-from c = at-below _ _ _ _ _ c.requires.size c.requires.giver c.requires.target c.cell_at-from.ensures

pub offset_bounds-rights-to : goal.offset_bounds-rights-to
offset_bounds-rights-to c =
    let below : c.cell_at-to.result < length c.args.rights.now = at-below _ _ _ _ _ c.requires.size c.requires.recipient c.requires.target c.cell_at-to.ensures in
    search rules

pub bounds-rights-to : goal.bounds-rights-to
bounds-rights-to c = at-below _ _ _ _ _ c.requires.size c.requires.recipient c.requires.target c.cell_at-to.ensures

pub offset_bounds-rights-to-then-holds : goal.offset_bounds-rights-to-then-holds
offset_bounds-rights-to-then-holds c =
    let below : c.cell_at-to.result < length c.args.rights.now = at-below _ _ _ _ _ c.requires.size c.requires.recipient c.requires.target c.cell_at-to.ensures in
    search rules

pub bounds-rights-to-then-holds : goal.bounds-rights-to-then-holds
bounds-rights-to-then-holds c = at-below _ _ _ _ _ c.requires.size c.requires.recipient c.requires.target c.cell_at-to.ensures

pub returns-then-holds : goal.returns-then-holds
returns-then-holds c =
    grant-done _ _ _ _ _ _ _ c.cell_at-from.ensures refl _ _ _ c.cell_at-to.ensures refl c.adds-has.ensures
    (sym c.holds.ensures ∙ c.if-holds.true)

pub returns-else-holds : goal.returns-else-holds
returns-else-holds c =
    grant-not-done _ _ _ _ _ _ _ c.cell_at-from.ensures refl (sym c.holds.ensures ∙ c.if-holds.false)
