-- `find` meets its contract: the closure tests one endpoint's name. Assumes nothing.
use Rattle.std.proofs.Common.{◌≡◌, ◌%◌, ℕ, Bool, true, false, eqb, get_or, rules, tests}
use Rattle.std.proofs.lemmas.Iterator.{first_from_Range}
use Rattle.working_endpoint_calls.proofs.Hints.{first-found}
use Rattle.working_endpoint_calls.proofs.find.Goals as goal

pub returns : goal.returns
returns c =
    let a = c.args in
    let test : ℕ → Bool = λ e. eqb (get_or a.names.now (e % 32) 0) a.name in
    first-found a.m test c.find.result
    (first_from_Range _ _ _ _ (λ e. test e ≡ true) (λ e. test e ≡ false) c.find.ensures.ran
    (λ x q k. search (rules, tests))
    (λ x q k. search (rules, tests)))
