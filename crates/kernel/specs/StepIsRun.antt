-- What is claimed of one call by itself beside a run of it.
use Rattle.std.specs.Prelude.{ℕ, ◌≤◌, ◌≡◌, List, [], ◌∷◌, ◌++◌, length, drop, Result}
use Rattle.machine.specs.Call.{Call, split}
use Rattle.machine.specs.Promise.{RunPromise}
use Rattle.run_result.specs.declared.EntryRefusal.{EntryRefusal}
use Rattle.answers.specs.declared.Answer.{Answer}
use Rattle.kernel.specs.Step.{step_code, step_words, StepPromise}

-- A step is a run of one call: where the list ws is the call c and the answer space has three words, what a step leaves and what
-- any function leaves that keeps the promise of a run are the same, code, table, holders and, where neither is refused, answer.
abbrev pub StepIsRun : Type 0
StepIsRun =
    (t ws space holders : List ℕ) (c : Call) (r : Result Answer EntryRefusal) (step_table step_holders : List ℕ) (code calls : ℕ) (answers end kept : List ℕ)
    → split ws ≡ c ∷ []
    → 3 ≤ length space
    → StepPromise t c holders r step_table step_holders
    → RunPromise t ws space holders code calls answers end kept
    → (step_code r ≡ code) × (step_table ≡ end) × (step_holders ≡ kept) × (code ≡ 0 → step_words r ++ drop 3 space ≡ answers)
