-- `endpoint_calls::receive` meets its contract: refused by a range test, refused by what was read, or done. Assumes nothing.
use mathlib.Core.Path.{sym, ap, ◌∙◌}
use native.Mathlib.Omega.{arith}
use borrow.Author.Tests.{eqb-false}
use Rattle.std.specs.Prelude.{Err}
use Rattle.machine.specs.Word.{kind, payload}
use Rattle.machine.specs.Queue.{waiting, oldest, lost}
use Rattle.rules.specs.Range.{call_numbers}
use Rattle.rules.specs.Access.{receive_access}
use Rattle.rules.proofs.Places.{decided}
use Rattle.rules.proofs.Passed.{passed, clear}
use Rattle.kernel.proofs.Decided.{receive-decided}
use Rattle.kernel.proofs.Fits.{may-receive-from}
use Rattle.kernel.proofs.Ranges.{in-endpoint, lost-in}
use Rattle.kernel.proofs.WrittenWords.{owner-read, waiting-read, endpoint-word, received-back}
use Rattle.kernel.proofs.Outcomes.{settled-stopped, settled-received}
use Rattle.kernel.proofs.endpoint_calls.receive.Goals as goal

pub returns-in_err-of_endpoint : goal.returns-in_err-of_endpoint
unfolding call_numbers
returns-in_err-of_endpoint c p =
    settled-stopped _ _ _ _ _ c.from_residual.ensures.1 (decided _ _ _ _ (Err _) c.requires.same_domains c.requires.same_endpoints c.in_err-of_endpoint.ensures)

pub place-start-requires-clause-known : goal.place-start-requires-clause-known
place-start-requires-clause-known c = (in-endpoint _ _ _ _ c.in_ok-of_endpoint.ensures).1

pub returns-in_err-receive : goal.returns-in_err-receive
returns-in_err-receive c p =
    let r = c.requires in
    let at = c.place-start.ensures.value in
    settled-stopped _ _ _ _ _ c.from_residual-in_err-receive.ensures.1
    (c.in_err-receive.ensures
    ∙ receive-decided _ _ r.same_domains _ _ r.same_endpoints _ c.in_ok-of_endpoint.ensures _ _ (owner-read _ _ _ at) (waiting-read _ _ _ at))

pub overflow_sub-result : goal.overflow_sub-result
overflow_sub-result c =
    let r = c.requires in
    let known = (in-endpoint _ _ _ _ c.in_ok-of_endpoint.ensures).1 in
    omega (arith, ap kind (endpoint-word _ _ _ c.place-start.ensures.value 3 (omega arith)) ∙ lost-in _ r.accepted _ r.same_domains _ _ r.same_endpoints known)

pub returns : goal.returns
unfolding receive_access oldest lost waiting
returns c p =
    let r = c.requires in
    let at = c.place-start.ensures.value in
    let made = c.in_ok-receive.ensures in
    let known = (in-endpoint _ _ _ _ c.in_ok-of_endpoint.ensures).1 in
    let some = eqb-false _ _ (clear _ _ 19 _ (passed _ _ 18 _ made)) in
    let word = endpoint-word _ _ _ at in
    let is_lost = ap kind (word 3 (omega arith)) ∙ lost-in _ r.accepted _ r.same_domains _ _ r.same_endpoints known in
    settled-received _ _ _ _ _ _ _
    (sym (passed _ _ 19 _ (passed _ _ 18 _ made))
    ∙ made
    ∙ receive-decided _ _ r.same_domains _ _ r.same_endpoints _ c.in_ok-of_endpoint.ensures _ _ (owner-read _ _ _ at) (waiting-read _ _ _ at))
    (ap payload (word 4 (omega arith)))
    (omega (arith, is_lost) ∙ ap payload (word 3 (omega arith)))
    (received-back _ _ _ at _
    (may-receive-from _ r.accepted _ (omega (arith, known, r.same_endpoints)) (omega (arith, some, waiting-read _ _ _ at)))
    c.receive-2.ensures.q_after)
