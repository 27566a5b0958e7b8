-- `endpoint_calls::send` meets its contract: refused by a range test, refused by what was read, or done. Assumes nothing.
use mathlib.Core.Path.{sym, ap, ◌∙◌}
use native.Mathlib.Omega.{arith}
use Rattle.std.specs.Prelude.{Err}
use Rattle.machine.specs.Table.{rights}
use Rattle.rules.specs.Range.{call_numbers}
use Rattle.rules.specs.Access.{send_access}
use Rattle.rules.proofs.Places.{decided}
use Rattle.rules.proofs.Passed.{passed}
use Rattle.kernel.proofs.Decided.{send-decided}
use Rattle.kernel.proofs.Fits.{may-send-to}
use Rattle.kernel.proofs.Ranges.{in-endpoint, owner-in}
use Rattle.kernel.proofs.WrittenWords.{owner-read, sent_back}
use Rattle.kernel.proofs.Outcomes.{settled-stopped, settled-sent}
use Rattle.kernel.proofs.endpoint_calls.send.Goals as goal

pub returns-in_err-of_endpoint : goal.returns-in_err-of_endpoint
unfolding call_numbers
returns-in_err-of_endpoint c p =
    settled-stopped _ _ _ _ _ c.from_residual.ensures.1 (decided _ _ _ _ (Err _) c.requires.same_domains c.requires.same_endpoints c.in_err-of_endpoint.ensures)

pub place-start-requires-clause-known : goal.place-start-requires-clause-known
place-start-requires-clause-known c = (in-endpoint _ _ _ _ c.in_ok-of_endpoint.ensures).1

pub held-mine-requires : goal.held-mine-requires
held-mine-requires c =
    let r = c.requires in
    let within = in-endpoint _ _ _ _ c.in_ok-of_endpoint.ensures in
    record {
      accepted = r.accepted;
      same_domains = r.same_domains;
      known_holder = within.0;
      known_target = owner-in _ r.accepted _ r.same_domains _ _ _ r.same_endpoints within.1 (owner-read _ _ _ c.place-start.ensures.value);
    }

pub returns-in_err-send : goal.returns-in_err-send
returns-in_err-send c p =
    let r = c.requires in
    settled-stopped _ _ _ _ _ c.from_residual-in_err-send.ensures.1
    (c.in_err-send.ensures
    ∙ send-decided _ _ r.same_domains _ _ r.same_endpoints _ c.in_ok-of_endpoint.ensures _ _
    (c.held-mine.ensures ∙ ap (rights c.args.table.now c.args.caller) (owner-read _ _ _ c.place-start.ensures.value)))

pub returns : goal.returns
unfolding send_access
returns c p =
    let r = c.requires in
    let made = c.in_ok-send.ensures in
    let within = in-endpoint _ _ _ _ c.in_ok-of_endpoint.ensures in
    settled-sent _ _ _ _ _ _
    (sym (passed _ _ 17 _ made)
    ∙ made
    ∙ send-decided _ _ r.same_domains _ _ r.same_endpoints _ c.in_ok-of_endpoint.ensures _ _
    (c.held-mine.ensures ∙ ap (rights c.args.table.now c.args.caller) (owner-read _ _ _ c.place-start.ensures.value)))
    (sent_back _ _ _ c.place-start.ensures.value _ _ (may-send-to _ r.accepted _ _ (omega (arith, within.1, r.same_endpoints)) r.fits) c.send-2.ensures.q_after)
