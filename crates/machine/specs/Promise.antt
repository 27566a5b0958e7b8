-- What is promised of every function that runs a list. From the table t, the list ws, the answer space and the words lent for
-- the holders, it returned a code and a count of calls, and left the space as answers, the table as end and the holders as
-- kept. The kernel's contract is this record.
use Rattle.std.specs.Prelude.{ℕ, ◌<◌, ◌≡◌, List}
use Rattle.machine.specs.Table.{endpoints}
use Rattle.machine.specs.Call.{split}
use Rattle.machine.specs.Entry.{Outcome, entry}
use Rattle.machine.specs.RunClaims.{RefusalChangesNothing, Noninterference, RightsProvenance, CountsConserved, FifoOrder}

pub record RunPromise (t ws space holders : List ℕ) (code calls : ℕ) (answers end kept : List ℕ) : Type 0 where
  -- demands 1 and 2 (docs/ASSURANCE has the checklist with its lines): the code, the count of calls, every answer word and
  -- every table word are those of the machine of document 01, for arbitrary words. A refusal changes nothing
  pub same_code : code ≡ (entry t ws space holders).code
  pub same_calls : calls ≡ (entry t ws space holders).calls
  pub same_answers : answers ≡ (entry t ws space holders).answers
  pub same_table : end ≡ (entry t ws space holders).table
  -- and so is every word of the holders (document 02 (h)): where the list ran, they are computed from the table at the end
  pub same_holders : kept ≡ (entry t ws space holders).holders
  -- demand 1, of the words that were left: where the list ran, a refused call altered no table word and is answered with its
  -- number and two zero words
  pub refusals : code ≡ 0 → RefusalChangesNothing t (split ws) answers end
  -- demand 3, of the words that were left: where the list ran, what each domain sees of them is what it sees of the machine
  -- run on the kept calls alone
  pub noninterference : code ≡ 0 → Noninterference t (split ws) answers end
  -- lines 2 and 4 of the checklist, of the words that were left: every right has a source, the counts are conserved, and
  -- messages are in FIFO order
  pub rights_provenance : code ≡ 0 → RightsProvenance t (split ws) end
  pub counts : code ≡ 0 → (e : ℕ) → e < endpoints t → CountsConserved e t (split ws) answers end
  pub fifo_order : code ≡ 0 → (e : ℕ) → e < endpoints t → FifoOrder e t (split ws) answers end

-- the promise of an outcome
abbrev pub Keeps : List ℕ → List ℕ → List ℕ → List ℕ → Outcome → Type 0
Keeps t ws space holders o = RunPromise t ws space holders o.code o.calls o.answers o.table o.holders

-- The entry itself keeps the promise.
abbrev pub EveryEntryKeeps : Type 0
EveryEntryKeeps = (t ws space holders : List ℕ) → Keeps t ws space holders (entry t ws space holders)
