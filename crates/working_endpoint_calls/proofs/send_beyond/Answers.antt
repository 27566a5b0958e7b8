-- `send_beyond` meets its contract: the owner is read of the ring's words that are there. Assumes nothing.
use Rattle.std.proofs.Common.{ap}
use Rattle.rights_matrix.specs.Rows.{held_in}
use Rattle.working_endpoint_calls.proofs.Beyond.{sent-beyond}
use Rattle.working_endpoint_calls.proofs.Parts.{owner-read}
use Rattle.working_endpoint_calls.proofs.send_beyond.Goals as goal

pub returns : goal.returns
returns c =
    let a = c.args in
    let owner = owner-read a.rings.now a.e _ c.word-info.ensures in
    rw (c.and.ensures, ← ap (held_in a.rows.now a.caller) owner, ← c.held-held.ensures)
    (sent-beyond a.rings.now a.e c.requires _ a.message c.send.result c.send.ensures)
