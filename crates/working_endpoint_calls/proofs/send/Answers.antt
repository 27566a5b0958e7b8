-- `send` meets its contract: refused by the range of a field, or served beyond the rings or on a ring lent as a part of them.
-- Assumes nothing.
use Rattle.std.proofs.Common.{◌≡◌, ◌∙◌, ap, ℕ, List, Err, rules}
use Rattle.rules.specs.Range.{call_numbers}
use Rattle.rules.specs.Access.{send_access, access_by}
use Rattle.rights_matrix.specs.Rows.{held_in}
use Rattle.ring.specs.Ring.{ring_owner}
use Rattle.working_theory.specs.State.{ring_at}
use Rattle.working_endpoint_calls.proofs.Parts.{lent, twelve-lent}
use Rattle.working_endpoint_calls.proofs.Outcomes.{queue-refused, so-decided, ring-back}
use Rattle.working_endpoint_calls.proofs.send.Goals as goal

pub returns-in_err-of_endpoint : goal.returns-in_err-of_endpoint
unfolding call_numbers
returns-in_err-of_endpoint c =
    let is : c.from_residual.result ≡ Err c.in_err-of_endpoint.field-0.0 = search rules in
    rw is (queue-refused _ _ _ (c.in_err-of_endpoint.ensures _))

pub returns-then-rings-end : goal.returns-then-rings-end
unfolding call_numbers access_by
returns-then-rings-end c =
    let a = c.args in
    so-decided (send_access (held_in a.rows.now a.caller (ring_owner (ring_at a.rings.now a.e))) a.e a.message) _ _ _ _ (c.in_ok-of_endpoint.ensures _) c.send_beyond.ensures

pub send_on-requires : goal.send_on-requires
send_on-requires c = twelve-lent _ _ c.if-rings-end.false

pub returns : goal.returns
unfolding call_numbers access_by
returns c =
    let a = c.args in
    ring-back a.rings.now a.e _ _ _ _
    (ap (λ (r : List ℕ). send_access (held_in a.rows.now a.caller (ring_owner r)) a.e a.message) (lent a.rings.now a.e) ∙ c.in_ok-of_endpoint.ensures _)
    c.send_on.ensures
