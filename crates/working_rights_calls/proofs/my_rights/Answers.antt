-- `my_rights` meets its contract. Assumes nothing.
use Rattle.std.proofs.Common.{◌≡◌, refl, Err, rules}
use Rattle.rules.specs.Range.{call_numbers}
use Rattle.rules.specs.Access.{access_by}
use Rattle.working_theory.proofs.Answered.{refused-answer}
use Rattle.working_rights_calls.proofs.Outcomes.{listed}
use Rattle.working_rights_calls.proofs.my_rights.Goals as goal

pub returns-in_err-of_caller : goal.returns-in_err-of_caller
unfolding call_numbers
returns-in_err-of_caller c first =
    let is : c.from_residual.result ≡ Err c.in_err-of_caller.field-0.0 = search rules in
    rw is (refused-answer _ _ first _ _ _ _ (c.in_err-of_caller.ensures _) refl)

pub returns : goal.returns
unfolding call_numbers access_by
returns c = listed _ _ _ _ _ _ _ (c.in_ok-of_caller.ensures _) c.bits-low.ensures c.bits-high.ensures
