-- `grant` meets its contract: refused by the range of a field, refused by what was read, or done. Assumes nothing.
use Rattle.std.proofs.Common.{◌≡◌, ◌∙◌, ap, ap₂, sym, ℕ, Err, rules}
use Rattle.machine.specs.Right.{adds}
use Rattle.rules.specs.Range.{call_numbers}
use Rattle.rules.specs.Access.{grant_access, access_by}
use Rattle.rules.proofs.Passed.{passed}
use Rattle.working_rights_calls.proofs.Outcomes.{rights-refused, granted}
use Rattle.working_rights_calls.proofs.grant.Goals as goal

pub returns-in_err-of_grant : goal.returns-in_err-of_grant
unfolding call_numbers
returns-in_err-of_grant c =
    let is : c.from_residual.result ≡ Err c.in_err-of_grant.field-0.0 = search rules in
    rw is (rights-refused _ _ _ _ (c.in_err-of_grant.ensures _))

pub returns-in_err-grant : goal.returns-in_err-grant
unfolding call_numbers access_by
returns-in_err-grant c =
    let a = c.args in
    let is : c.from_residual-in_err-grant.result ≡ Err c.in_err-grant.field-0.0 = search rules in
    rw is (rights-refused _ _ _ _ (c.in_err-grant.ensures ∙ (ap₂ (grant_access a.caller a.target a.recipient a.given) c.held-mine.ensures c.held-toward.ensures ∙ c.in_ok-of_grant.ensures _)))

pub returns : goal.returns
unfolding grant_access call_numbers access_by
returns c =
    let a = c.args in
    let x = c.in_ok-grant.field-0 in
    let served = c.in_ok-grant.ensures in
    granted _ _ _ _ _ _ _ _ c.alter.ensures.rows_after c.alter.ensures.holders_after _
    (sym (passed x _ 23 _ (passed x _ 22 _ served)) ∙ (served ∙ (ap₂ (grant_access a.caller a.target a.recipient a.given) c.held-mine.ensures c.held-toward.ensures ∙ c.in_ok-of_grant.ensures _)))
    (c.adds-more.ensures ∙ ap (λ (k : ℕ). adds k a.given) c.held-had.ensures)
