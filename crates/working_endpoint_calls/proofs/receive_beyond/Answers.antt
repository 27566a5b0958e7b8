-- `receive_beyond` meets its contract: the owner and the count are read of the ring's words that are there. Assumes nothing.
use Rattle.working_endpoint_calls.proofs.Beyond.{received-beyond}
use Rattle.working_endpoint_calls.proofs.Parts.{owner-read, count-read}
use Rattle.working_endpoint_calls.proofs.receive_beyond.Goals as goal

pub returns : goal.returns
returns c =
    let a = c.args in
    rw (c.and.ensures, ← owner-read a.rings.now a.e _ c.word-info.ensures, ← count-read a.rings.now a.e _ c.word-count.ensures)
    (received-beyond a.rings.now a.e c.requires a.caller _ _ c.receive.result c.receive.ensures)
