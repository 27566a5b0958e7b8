-- What follows from the promise of a run (specs/Promise) for the words that were left, by whichever function keeps it. Each is the
-- type of a theorem in proofs/PromiseClaims.
use Rattle.std.specs.Prelude.{ℕ, ◌≡◌, List}
use Rattle.machine.specs.MachineClaims.{StaysAccepted}
use Rattle.machine.specs.Promise.{RunPromise}

-- "An entry refusal answers its code and 0 calls and changes neither table nor answers" (document 01, 'Where each number is
-- checked'), nor the holders.
abbrev pub EveryRefusedRunChangesNothing : Type 0
EveryRefusedRunChangesNothing =
    (t ws space holders : List ℕ) (code calls : ℕ) (answers end kept : List ℕ)
    → RunPromise t ws space holders code calls answers end kept
    → (code ≡ 0 → ⊥)
    → (calls ≡ 0) × (answers ≡ space) × (end ≡ t) × (kept ≡ holders)

-- "Owners, names and capacities never change" (document 01, 'The table'): where the list ran, the table that was left is accepted
-- and has the same unchanging parts.
abbrev pub EveryPromisedRunStaysAccepted : Type 0
EveryPromisedRunStaysAccepted =
    (t ws space holders : List ℕ) (code calls : ℕ) (answers end kept : List ℕ)
    → RunPromise t ws space holders code calls answers end kept
    → code ≡ 0
    → StaysAccepted t end
