-- `serving::refused_or` meets its contract. Assumes nothing.
use mathlib.Core.Path.{sym, ◌∙◌}
use Rattle.turns.proofs.Codes.{then_next, then-refused}
use Rattle.turns.proofs.Outcomes.{entry-some}
use Rattle.turns.proofs.serving.refused_or.Goals as goal

pub returns-in-Ok : goal.returns-in-Ok
returns-in-Ok c = sym (then_next _ _ (sym c.in-Ok.ensures))

pub returns-in-Err : goal.returns-in-Err
returns-in-Err c =
    let code = c.in-Err.ensures in
    code ∙ sym (then-refused _ _ (λ none. entry-some _ (code ∙ none)))
