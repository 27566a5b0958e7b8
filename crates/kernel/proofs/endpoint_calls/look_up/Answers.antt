-- `endpoint_calls::look_up` meets its contract: 12, and then the endpoint that has the name. Assumes nothing.
use mathlib.Core.Path.{ap, ◌∙◌}
use Rattle.std.specs.Prelude.{Ok, Err}
use Rattle.machine.specs.Guards.{look_up_places}
use Rattle.rules.specs.Range.{call_numbers}
use Rattle.rules.specs.Access.{found_of, access_by}
use Rattle.rules.proofs.Places.{decided}
use Rattle.kernel.proofs.Outcomes.{settled-refused, settled-stopped, settled-looked-up}
use Rattle.kernel.proofs.endpoint_calls.look_up.Goals as goal

pub returns-in_err-of_caller : goal.returns-in_err-of_caller
unfolding call_numbers
returns-in_err-of_caller c p =
    settled-stopped _ _ _ _ _ c.from_residual.ensures.1 (decided _ _ _ _ (Err _) c.requires.same_domains c.requires.same_endpoints c.in_err-of_caller.ensures)

pub returns-in-Some : goal.returns-in-Some
unfolding look_up_places found_of call_numbers access_by
returns-in-Some c p =
    settled-looked-up _ _ _ _
    (ap look_up_places c.in-Some.ensures
    ∙ decided _ _ _ _ (Ok tt) c.requires.same_domains c.requires.same_endpoints c.in_ok-of_caller.ensures)

pub returns-in-None : goal.returns-in-None
unfolding look_up_places found_of call_numbers access_by
returns-in-None c p =
    settled-refused _ _ _ _
    (ap look_up_places c.in-None.ensures
    ∙ decided _ _ _ _ (Ok tt) c.requires.same_domains c.requires.same_endpoints c.in_ok-of_caller.ensures)
