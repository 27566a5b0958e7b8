-- `send_on` meets its contract: refused by what was read, or done. Assumes nothing.
use Rattle.std.proofs.Common.{◌≡◌, ◌∙◌, ℕ, sym, ap, Err, rules}
use Rattle.ring.specs.Ring.{info, ring_owner}
use Rattle.rules.specs.Access.{send_access}
use Rattle.rules.proofs.Passed.{passed}
use Rattle.working_endpoint_calls.proofs.Outcomes.{ring-refused, ring-sent}
use Rattle.working_endpoint_calls.proofs.send_on.Goals as goal

pub returns-in_err-send : goal.returns-in_err-send
unfolding ring_owner info
returns-in_err-send c =
    let is : c.from_residual.result ≡ Err c.in_err-send.field-0.0 = search rules in
    rw is (ring-refused _ _ _ _ (c.in_err-send.ensures ∙ ap (λ (s : ℕ). send_access s c.args.e c.args.message) c.held-held.ensures))

pub returns : goal.returns
unfolding send_access ring_owner info
returns c =
    let x = c.in_ok-send.field-0 in
    let served = c.in_ok-send.ensures in
    ring-sent _ _ _ _ _ (sym (passed x _ 17 _ served) ∙ (served ∙ ap (λ (s : ℕ). send_access s c.args.e c.args.message) c.held-held.ensures)) c.send-2.ensures
