-- `look_up` meets its contract: refused with code 12, or decided by what has the name. Assumes nothing.
use Rattle.std.proofs.Common.{◌≡◌, ◌∙◌, sym, ap, refl, Some, None, Err, rules}
use Rattle.machine.specs.Guards.{look_up_places}
use Rattle.calls.specs.declared.Refusal.TheVariants.{NoSuchName}
use Rattle.rules.specs.Range.{call_numbers}
use Rattle.rules.specs.Access.{found_of, access_by}
use Rattle.working_theory.proofs.Answered.{refused-answer}
use Rattle.working_endpoint_calls.proofs.Outcomes.{looked-up}
use Rattle.working_endpoint_calls.proofs.look_up.Goals as goal

pub returns-in_err-of_caller : goal.returns-in_err-of_caller
unfolding call_numbers
returns-in_err-of_caller c first =
    let is : c.from_residual.result ≡ Err c.in_err-of_caller.field-0.0 = search rules in
    rw is (refused-answer _ _ first _ _ _ _ (c.in_err-of_caller.ensures _) refl)

pub returns-in_err-e : goal.returns-in_err-e
unfolding call_numbers access_by found_of look_up_places
returns-in_err-e c first =
    let is : c.from_residual-in_err-e.result ≡ Err NoSuchName = search rules in
    let none : c.find_by.result ≡ None = search rules in
    rw is (refused-answer _ _ first _ _ _ _ (ap look_up_places (ap found_of (sym none) ∙ c.find_by.ensures) ∙ c.in_ok-of_caller.ensures _) refl)

pub returns : goal.returns
unfolding call_numbers access_by found_of look_up_places
returns c =
    let found : c.find_by.result ≡ Some c.in_ok-e.e = search rules in
    looked-up _ _ _ _ _ (ap look_up_places (ap found_of (sym found) ∙ c.find_by.ensures) ∙ c.in_ok-of_caller.ensures _)
