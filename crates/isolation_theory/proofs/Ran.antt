-- What a run that was promised left (specs/PromisedRun): its table was accepted, and the answers and the table are the machine's.
-- Assumes nothing.
use mathlib.Core.Path.{◌≡◌, sym, ap, ◌∙◌}
use mathlib.Core.List.{List, ◌++◌}
use Prim.Native.Nat.{ℕ, ◌*◌}
use lib.ListN.{length, drop}
use Rattle.machine.specs.Check.{Accepted}
use Rattle.machine.specs.Call.{split}
use Rattle.machine.specs.Run as machine
use Rattle.machine.specs.Entry.{Runs, ran}
use Rattle.machine.proofs.Promise.{runs-accepted, entry-ran, entry-code}
use Rattle.isolation_theory.specs.PromisedRun.{PromisedRun}

module _ (t ws : List ℕ) (p : PromisedRun t ws) where
  runs : Runs t ws (length p.space) (length p.holders)
  runs = sym (entry-code t ws p.space p.holders) ∙ sym p.promise.same_code

  pub ran-accepted : Accepted t
  ran-accepted = runs-accepted t ws (length p.space) (length p.holders) runs

  pub ran-table : p.end ≡ machine.run t (split ws)
  unfolding ran
  ran-table = p.promise.same_table ∙ ap (λ o. o.table) (entry-ran t ws p.space p.holders runs)

  pub ran-answers : p.answers ≡ machine.answers t (split ws) ++ drop (3 * length (split ws)) p.space
  unfolding ran
  ran-answers = p.promise.same_answers ∙ ap (λ o. o.answers) (entry-ran t ws p.space p.holders runs)
