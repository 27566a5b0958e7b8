-- `Tally::add_list` meets its contract: a refused list adds nothing, and one that ran its counts. Assumes nothing.
use Rattle.std.proofs.Common.{refl}
use Rattle.std.proofs.lemmas.Result.{err_from_is_err_and}
use Rattle.run_result.proofs.Refusals.{entry-refusal-code}
use Rattle.totals_add.proofs.RunLaws.{run_of, countable, list-added, nothing-added}
use Rattle.totals_add.proofs.Tally.add_list.Goals as goal

pub returns-in_err-calls : goal.returns-in_err-calls
returns-in_err-calls c =
    let p = err_from_is_err_and c.from_residual.result c.from_residual.ensures.1 in
    rw (p.1, p.2) (nothing-added c.in_err-calls.ensures (entry-refusal-code _))

pub add_counts-requires : goal.add_counts-requires
add_counts-requires c = countable (run_of c.in_ok-calls.ensures refl) c.waiting_counts-before.ensures

pub returns : goal.returns
returns c = list-added c.in_ok-calls.ensures c.waiting_counts-before.ensures c.add_counts.ensures
