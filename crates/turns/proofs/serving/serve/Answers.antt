-- `serving::serve` meets its contract: the step gets the turn's call, and what it promises is what the turn does. Assumes nothing.
use mathlib.Core.List.{List}
use Prim.Native.Nat.{ℕ}
use mathlib.Core.Path.{◌≡◌, ap, ap₂, subst, ◌∙◌}
use Rattle.std.specs.Prelude.{Option, Result}
use Rattle.machine.specs.Call.{Call}
use Rattle.calls.specs.Split.{call_of, width_of}
use Rattle.answers.specs.declared.Answer.{Answer}
use Rattle.run_result.specs.declared.EntryRefusal.{EntryRefusal}
use Rattle.turns_state.specs.Pending.{second_of_oldest}
use Rattle.turns_state.specs.State.{block, first_of_oldest}
use Rattle.kernel.specs.Step.{StepPromise}
use Rattle.turns_state.proofs.Oldest.{oldest-call}
use Rattle.turns.proofs.Outcomes.{stopped}
use Rattle.turns.proofs.Serves.{serve-refused, serve-answered}
use Rattle.turns.proofs.serving.serve.Goals as goal

-- what the step promises of its result, for the turn's call
stepped : (t ws holders : List ℕ) (d f : ℕ) (v : Option ℕ) (r : Result Answer EntryRefusal) (t' kept : List ℕ)
    → f ≡ first_of_oldest (block ws d)
    → v ≡ second_of_oldest (block ws d)
    → StepPromise t (call_of f v) holders r t' kept
    → StepPromise t (oldest-call ws d) holders r t' kept
stepped t ws holders d f v r t' kept first second promised =
    subst (λ (call : Call). StepPromise t call holders r t' kept) (ap₂ call_of first second) promised

pub returns-in_err-words : goal.returns-in_err-words
returns-in_err-words c =
    rw (stopped _ _ c.from_residual.ensures.1)
    (serve-refused c.requires c.args.holders.now _ _ _
    (stepped _ _ _ _ _ _ _ _ _ c.first_of_oldest-first.ensures c.second_of_oldest-second.ensures c.in_err-words.ensures))

pub returns : goal.returns
returns c =
    serve-answered c.requires c.args.holders.now _ _ _ _ _ _
    (c.width-few.ensures ∙ ap width_of c.second_of_oldest-second.ensures)
    c.remove.ensures.state_after
    c.put.ensures
    (stepped _ _ _ _ _ _ _ _ _ c.first_of_oldest-first.ensures c.second_of_oldest-second.ensures c.in_ok-words.ensures)
