-- `connections::joins` meets its contract. Assumes nothing.
use Rattle.components.proofs.Words.{joined-read}
use Rattle.components.proofs.connections.joins.Goals as goal

pub returns : goal.returns
returns c =
    rw (c.has_any.ensures, c.has_any-2.ensures)
    (joined-read c.args.table.now _ _ _ _ _ c.requires c.rights.ensures c.rights-2.ensures)
