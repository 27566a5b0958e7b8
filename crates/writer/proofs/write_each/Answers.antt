-- `write_each` meets its contract: each result is the one that is due for what the first pass found. Assumes nothing.
use mathlib.Core.Path.{sym, ◌∙◌}
use Rattle.std.proofs.lemmas.Result.{err_from_is_err_and}
use Rattle.writer.proofs.Outcomes.{refused, all-fit, too_long_lem, room, done}
use Rattle.writer.proofs.write_each.Goals as goal

pub returns-in_err-words : goal.returns-in_err-words
returns-in_err-words g c cs given =
    let p = err_from_is_err_and c.from_residual.result c.from_residual.ensures.1 in
    rw (p.1, p.2) (refused cs c.args.count c.args.list.now _ (c.in_err-words.ensures cs given))

pub returns-then-too_long : goal.returns-then-too_long
returns-then-too_long g c cs given = too_long_lem _ _ _ _ (c.in_ok-words.ensures cs given) (sym c.too_long.ensures ∙ c.if-too_long.true)

pub returns : goal.returns
returns g c cs given =
    let counted = c.in_ok-words.ensures cs given in
    let short = sym c.too_long.ensures ∙ c.if-too_long.false in
    done _ _ _ _ counted short _
    (c.put_all.ensures cs given (all-fit _ c.args.count c.args.list.now _ counted) (room _ c.args.count c.args.list.now _ counted short))
