-- `remove` meets its contract: refused by the range of a field, refused by what was read, or done. Assumes nothing.
use Rattle.std.proofs.Common.{◌≡◌, ◌∙◌, ap, sym, ℕ, Err, rules}
use Rattle.machine.specs.Right.{without}
use Rattle.rules.specs.Range.{call_numbers}
use Rattle.rules.specs.Access.{remove_access, access_by}
use Rattle.rules.proofs.Passed.{passed}
use Rattle.working_rights_calls.proofs.Outcomes.{rights-refused, removed}
use Rattle.working_rights_calls.proofs.remove.Goals as goal

pub returns-in_err-of_remove : goal.returns-in_err-of_remove
unfolding call_numbers
returns-in_err-of_remove c =
    let is : c.from_residual.result ≡ Err c.in_err-of_remove.field-0.0 = search rules in
    rw is (rights-refused _ _ _ _ (c.in_err-of_remove.ensures _))

pub returns-in_err-remove : goal.returns-in_err-remove
unfolding call_numbers access_by
returns-in_err-remove c =
    let a = c.args in
    let is : c.from_residual-in_err-remove.result ≡ Err c.in_err-remove.field-0.0 = search rules in
    rw is (rights-refused _ _ _ _ (c.in_err-remove.ensures ∙ (ap (remove_access a.caller a.target a.given) c.held-mine.ensures ∙ c.in_ok-of_remove.ensures _)))

pub returns : goal.returns
unfolding remove_access call_numbers access_by
returns c =
    let a = c.args in
    let x = c.in_ok-remove.field-0 in
    let served = c.in_ok-remove.ensures in
    removed _ _ _ _ _ _ _ _ c.alter.ensures.rows_after c.alter.ensures.holders_after _
    (sym (passed x _ 22 _ served) ∙ (served ∙ (ap (remove_access a.caller a.target a.given) c.held-mine.ensures ∙ c.in_ok-of_remove.ensures _)))
    (c.without-left.ensures ∙ ap (λ (k : ℕ). without k a.given) c.held-mine.ensures)
