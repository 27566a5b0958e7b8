-- `receive_on` meets its contract: refused by what was read, or done. Assumes nothing.
use Rattle.std.proofs.Common.{◌≡◌, ◌∙◌, sym, Err, rules}
use Rattle.ring.specs.Ring.{count, info, ring_owner}
use Rattle.rules.specs.Access.{receive_access}
use Rattle.rules.proofs.Passed.{passed}
use Rattle.working_endpoint_calls.proofs.Outcomes.{ring-refused, ring-received}
use Rattle.working_endpoint_calls.proofs.receive_on.Goals as goal

pub returns-in_err-receive : goal.returns-in_err-receive
unfolding ring_owner info count
returns-in_err-receive c =
    let is : c.from_residual.result ≡ Err c.in_err-receive.field-0.0 = search rules in
    rw is (ring-refused _ _ _ _ c.in_err-receive.ensures)

pub returns : goal.returns
unfolding receive_access ring_owner info count
returns c =
    let x = c.in_ok-receive.field-0 in
    let got = c.receive-taken.ensures in
    let served = c.in_ok-receive.ensures in
    ring-received _ _ _ _ _ _ (sym (passed x _ 19 _ (passed x _ 18 _ served)) ∙ served) got.message got.lost got.left
