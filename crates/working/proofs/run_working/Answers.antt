-- `run_working` meets its contract: it is refused at its entry, or the calls run. Assumes nothing.
use Rattle.kernel.proofs.Entries.{may-run, promise-entered, promise-all-run}
use Rattle.kernel.proofs.Outcomes.{stopped}
use Rattle.working.proofs.run_working.Goals as goal

pub returns-in_err-enter : goal.returns-in_err-enter
returns-in_err-enter c = rw (stopped _ _ c.from_residual.ensures.1) (promise-entered _ _ _ _ _ c.in_err-enter.ensures)

pub run_calls-requires : goal.run_calls-requires
run_calls-requires c =
    let may = may-run _ _ _ _ c.in_ok-enter.ensures in
    record { accepted = may.0; list_len_bound = may.1.0; list_in_bounds = may.1.1.0; holders_len = may.1.1.1 }

pub returns : goal.returns
returns c = promise-all-run _ _ _ _ c.in_ok-enter.ensures _ _ _ _ c.run_calls.ensures
