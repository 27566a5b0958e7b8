-- `serve::serve` meets its contract: what holds of the call's variant holds of the call. Assumes nothing.
use Rattle.kernel.proofs.Fits.{message-fits}
use Rattle.kernel.proofs.Outcomes.{settled-unread}
use Rattle.kernel.proofs.OutcomeLaws.{here}
use Rattle.kernel.proofs.serve.serve.Goals as goal

pub send-requires : goal.send-requires
send-requires c =
    record {
      accepted = c.requires.accepted;
      same_domains = c.requires.same_domains;
      same_endpoints = c.requires.same_endpoints;
      fits = message-fits _ _ c.in-Send.is c.decode-call.ensures;
    }

pub returns-in-Refused : goal.returns-in-Refused
returns-in-Refused c =
    here c.in-Refused.is c.decode-call.ensures (settled-unread _ _ _ _ _ _ c.requires.same_domains c.refuse.ensures)

pub returns-in-LookUp : goal.returns-in-LookUp
returns-in-LookUp c =
    here c.in-LookUp.is c.decode-call.ensures (c.look_up.ensures _)

pub returns-in-Send : goal.returns-in-Send
returns-in-Send c =
    here c.in-Send.is c.decode-call.ensures (c.send.ensures _)

pub returns-in-Receive : goal.returns-in-Receive
returns-in-Receive c =
    here c.in-Receive.is c.decode-call.ensures (c.receive.ensures _)

pub returns-in-MyEndpoints : goal.returns-in-MyEndpoints
returns-in-MyEndpoints c =
    here c.in-MyEndpoints.is c.decode-call.ensures (c.my_endpoints.ensures _)

pub returns-in-MyRights : goal.returns-in-MyRights
returns-in-MyRights c =
    here c.in-MyRights.is c.decode-call.ensures (c.my_rights.ensures _)

pub returns-in-Grant : goal.returns-in-Grant
returns-in-Grant c =
    here c.in-Grant.is c.decode-call.ensures c.grant.ensures

pub returns-in-Remove : goal.returns-in-Remove
returns-in-Remove c =
    here c.in-Remove.is c.decode-call.ensures c.remove.ensures

pub returns-in-Revoke : goal.returns-in-Revoke
returns-in-Revoke c =
    here c.in-Revoke.is c.decode-call.ensures c.revoke.ensures
