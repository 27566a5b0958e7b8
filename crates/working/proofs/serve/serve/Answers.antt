-- `serve::serve` meets its contract: what holds of the call's variant holds of the call. Assumes nothing.
use Rattle.std.proofs.Common.{◌∙◌, ap}
use Rattle.answers.specs.Answer.{answer_of}
use Rattle.working.proofs.WholeState.{here, served-refused, served-look-up, served-send, served-receive, served-endpoints, served-rights, served-grant, served-remove, served-revoke}
use Rattle.working.proofs.serve.serve.Goals as goal
use Rattle.working.proofs.serve.serve.Goals.{in-Refused, in-LookUp, in-Send, in-Receive, in-MyEndpoints, in-MyRights, in-Grant, in-Remove, in-Revoke}

pub returns : goal.returns
returns c =
    elim c.match-call.branch [
      | in-Refused w ↦ rw (w.rows-is, w.rings-is, w.holders-is) (here w.in-Refused.is c.decode-call.ensures (served-refused _ _ _ _ _ _ _ _ _ _ _ _ w.refuse.ensures (c.answer.ensures ∙ ap (answer_of c.args.first) w.outcome-is)))
      | in-LookUp w ↦ rw (w.rows-is, w.rings-is, w.holders-is) (here w.in-LookUp.is c.decode-call.ensures (served-look-up _ _ _ _ _ _ _ _ _ _ _ (c.answer.ensures ∙ (ap (answer_of c.args.first) w.outcome-is ∙ w.look_up-outcome.ensures c.args.first))))
      | in-Send w ↦ rw (w.rows-is, w.rings-is, w.holders-is) (here w.in-Send.is c.decode-call.ensures (served-send _ _ _ _ _ _ _ _ _ _ _ _ _ _ w.send-outcome.ensures (c.answer.ensures ∙ ap (answer_of c.args.first) w.outcome-is)))
      | in-Receive w ↦ rw (w.rows-is, w.rings-is, w.holders-is) (here w.in-Receive.is c.decode-call.ensures (served-receive _ _ _ _ _ _ _ _ _ _ _ _ _ w.receive-outcome.ensures (c.answer.ensures ∙ ap (answer_of c.args.first) w.outcome-is)))
      | in-MyEndpoints w ↦ rw (w.rows-is, w.rings-is, w.holders-is) (here w.in-MyEndpoints.is c.decode-call.ensures (served-endpoints _ _ _ _ _ _ _ _ _ _ (c.answer.ensures ∙ (ap (answer_of c.args.first) w.outcome-is ∙ w.my_endpoints-outcome.ensures c.args.first))))
      | in-MyRights w ↦ rw (w.rows-is, w.rings-is, w.holders-is) (here w.in-MyRights.is c.decode-call.ensures (served-rights _ _ _ _ _ _ _ _ _ _ (c.answer.ensures ∙ (ap (answer_of c.args.first) w.outcome-is ∙ w.my_rights-outcome.ensures c.args.first))))
      | in-Grant w ↦ rw (w.rows-is, w.rings-is, w.holders-is) (here w.in-Grant.is c.decode-call.ensures (served-grant _ _ _ _ _ _ _ _ _ _ _ _ _ _ _ _ w.grant-outcome.ensures (c.answer.ensures ∙ ap (answer_of c.args.first) w.outcome-is)))
      | in-Remove w ↦ rw (w.rows-is, w.rings-is, w.holders-is) (here w.in-Remove.is c.decode-call.ensures (served-remove _ _ _ _ _ _ _ _ _ _ _ _ _ _ _ w.remove-outcome.ensures (c.answer.ensures ∙ ap (answer_of c.args.first) w.outcome-is)))
      | in-Revoke w ↦ rw (w.rows-is, w.rings-is, w.holders-is) (here w.in-Revoke.is c.decode-call.ensures (served-revoke _ _ _ _ _ _ _ _ _ _ _ _ _ _ _ _ w.revoke-outcome.ensures (c.answer.ensures ∙ ap (answer_of c.args.first) w.outcome-is)))
    ]
