-- What follows from the promise of a run (specs/PromiseClaims). Assumes nothing.
use mathlib.Core.Path.{sym, ap, subst, ◌∙◌}
use lib.ListN.{length}
use Rattle.machine.specs.Call.{split}
use Rattle.machine.specs.Entry.{Runs, Outcome, refusal, ran}
use Rattle.machine.specs.MachineClaims.{StaysAccepted}
use Rattle.machine.specs.PromiseClaims.{EveryRefusedRunChangesNothing, EveryPromisedRunStaysAccepted}
use Rattle.machine.proofs.Promise.{runs-accepted, entry-ran, entry-refused, entry-code}
use Rattle.machine.proofs.Step.{run-accepted}

pub refused-run : EveryRefusedRunChangesNothing
unfolding refusal
refused-run t ws space holders code calls answers end kept p some =
    let left = entry-refused t ws space holders (λ runs. some (p.same_code ∙ entry-code t ws space holders ∙ runs)) in
    (p.same_calls ∙ ap (λ (o : Outcome). o.calls) left, p.same_answers ∙ ap (λ (o : Outcome). o.answers) left, p.same_table ∙ ap (λ (o : Outcome). o.table) left, p.same_holders ∙ ap (λ (o : Outcome). o.holders) left)

pub promised-accepted : EveryPromisedRunStaysAccepted
unfolding ran
promised-accepted t ws space holders code calls answers end kept p none =
    let runs : Runs t ws (length space) (length holders) = sym (p.same_code ∙ entry-code t ws space holders) ∙ none in
    subst (StaysAccepted t) (sym (p.same_table ∙ ap (λ (o : Outcome). o.table) (entry-ran t ws space holders runs)))
    (run-accepted t (split ws) (runs-accepted t ws _ _ runs))
