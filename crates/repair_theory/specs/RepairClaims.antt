-- What is claimed of a repair (document 02 (k)): of whoever keeps the promise, for arbitrary words as a table and any lent list.
-- Each claim that begins with `Every` is closed and the type of a theorem in proofs/RepairClaims.
use Rattle.std.specs.Prelude.{ℕ, ◌+◌, ◌*◌, ◌<◌, ◌≤◌, ◌≡◌, true, false, ◌↔◌, List, length, get_or, take, drop}
use Rattle.machine.specs.Check.{Accepted}
use Rattle.repair_theory.specs.Claims.{Mended, AddsNoRight, AddsNoRightInAnyReading, AltersOnlyBroken}
use Rattle.repair_theory.specs.Changes.{put_back}
use Rattle.repair_theory.specs.Mend.{mendable}
use Rattle.repair_theory.specs.Repair.{altered_count, RepairPromise}

-- A repair of the table t with the lent words list, by whoever keeps the promise.
pub record PromisedRepair (t list : List ℕ) : Type 0 where
  pub code : ℕ
  pub count : ℕ
  pub end : List ℕ
  pub reported : List ℕ
  pub kept : RepairPromise t list code count end reported

-- What results passes the check.
abbrev pub EveryRepairAccepted : Type 0
EveryRepairAccepted = (t list : List ℕ) (r : PromisedRepair t list) → r.code ≡ 0 → Accepted r.end

-- Each rights word and each endpoint is mended: "A broken rights word becomes 20000000. An endpoint with a broken waiting, lost or
-- slot word gets an empty queue, lost 0" (document 02 (k)).
abbrev pub EveryRepairMended : Type 0
EveryRepairMended = (t list : List ℕ) (r : PromisedRepair t list) → r.code ≡ 0 → Mended t r.end

-- A refusal alters neither the table nor the list.
abbrev pub EveryRefusalAltersNothing : Type 0
EveryRefusalAltersNothing =
    (t list : List ℕ) (r : PromisedRepair t list)
    → (r.code ≡ 0 → ⊥)
    → (r.count ≡ 0) × (r.end ≡ t) × (r.reported ≡ list)

-- The code of a repair of the table t with so many words lent: 33 exactly where mending is not enough; then 34 exactly where there
-- are fewer than two words for each word that mending alters; else 0.
pub record CodeExactly (t : List ℕ) (size code : ℕ) : Type 0 where
  pub unmendable : (code ≡ 33) ↔ (mendable t ≡ false)
  pub too_short : (code ≡ 34) ↔ ((mendable t ≡ true) × (size < 2 * altered_count t))
  pub repaired : (code ≡ 0) ↔ ((mendable t ≡ true) × (2 * altered_count t ≤ size))

abbrev pub EveryRepairCode : Type 0
EveryRepairCode = (t list : List ℕ) (r : PromisedRepair t list) → CodeExactly t (length list) r.code

-- For a table that can be mended, twice as many words as it has are enough.
abbrev pub TwiceTheTableIsEnough : Type 0
TwiceTheTableIsEnough =
    (t list : List ℕ) (r : PromisedRepair t list)
    → mendable t ≡ true
    → 2 * length t ≤ length list
    → r.code ≡ 0

-- A sound table stays and yields an empty list.
abbrev pub EverySoundTableStays : Type 0
EverySoundTableStays =
    (t list : List ℕ) (r : PromisedRepair t list)
    → Accepted t
    → (r.code ≡ 0) × (r.count ≡ 0) × (r.end ≡ t) × (r.reported ≡ list)

-- No holder has a right at the end that its word didn't show before, read by its bits or in any other reading in which 20000000
-- shows none.
abbrev pub EveryRepairAddsNoRight : Type 0
EveryRepairAddsNoRight =
    (t list : List ℕ) (r : PromisedRepair t list) → AddsNoRight t r.end × AddsNoRightInAnyReading t r.end

-- Only broken words, and the queue words of an endpoint with one, are altered.
abbrev pub EveryRepairAltersOnlyBroken : Type 0
EveryRepairAltersOnlyBroken = (t list : List ℕ) (r : PromisedRepair t list) → AltersOnlyBroken t r.end

-- The first words of a list are count pairs that report exactly the words in which a new table differs from the old one, lowest
-- place first, each by its place and its old content.
pub record ReportsChanges (old new list : List ℕ) (count : ℕ) : Type 0 where
  pub differs : (j : ℕ) → j < count → get_or new (get_or list (2 * j) 0) 0 ≡ get_or old (get_or list (2 * j) 0) 0 → ⊥
  pub content : (j : ℕ) → j < count → get_or list (2 * j + 1) 0 ≡ get_or old (get_or list (2 * j) 0) 0
  pub ascending : (j : ℕ) → j + 1 < count → get_or list (2 * j) 0 < get_or list (2 * (j + 1)) 0
  pub every : (i : ℕ) → (get_or new i 0 ≡ get_or old i 0 → ⊥) → (j : ℕ) × (j < count) × (get_or list (2 * j) 0 ≡ i)

-- The pairs at the front of the list report exactly the words that were altered, and the words after them stay.
pub record ReportedExactly (t end list reported : List ℕ) (count : ℕ) : Type 0 where
  pub pairs : ReportsChanges t end reported count
  pub past : drop (2 * count) reported ≡ drop (2 * count) list
  pub size : length reported ≡ length list

abbrev pub EveryRepairReportedExactly : Type 0
EveryRepairReportedExactly =
    (t list : List ℕ) (r : PromisedRepair t list) → ReportedExactly t r.end list r.reported r.count

-- The old table can be restored: the pairs put back into the table that was left give the table as it was.
abbrev pub EveryRepairPutBack : Type 0
EveryRepairPutBack = (t list : List ℕ) (r : PromisedRepair t list) → put_back r.end (take (2 * r.count) r.reported) ≡ t
