-- `endpoint_calls::my_endpoints` meets its contract: 12, or the endpoints, all of which are in the table. Assumes nothing.
use mathlib.Core.Path.{refl, ◌∙◌}
use Rattle.std.specs.Prelude.{Ok, Err}
use Rattle.rules.specs.Range.{call_numbers}
use Rattle.rules.specs.Access.{access_by}
use Rattle.rules.proofs.Places.{decided}
use Rattle.kernel.proofs.Fits.{endpoints-shown}
use Rattle.kernel.proofs.Outcomes.{settled-stopped, settled-endpoints}
use Rattle.kernel.proofs.endpoint_calls.my_endpoints.Goals as goal

pub returns-in_err-of_caller : goal.returns-in_err-of_caller
unfolding call_numbers
returns-in_err-of_caller c p =
    settled-stopped _ _ _ _ _ c.from_residual.ensures.1 (decided _ _ _ _ (Err _) c.requires.same_domains refl c.in_err-of_caller.ensures)

pub returns : goal.returns
unfolding call_numbers access_by
returns c p =
    settled-endpoints _ _ _ _ _ (decided _ _ _ _ (Ok tt) c.requires.same_domains refl c.in_ok-of_caller.ensures)
    (c.endpoints_listed.ensures ∙ endpoints-shown _ c.requires.accepted _)
