-- What is claimed of mending (document 02 (k)), in closed statements about arbitrary words as a table. Each is the type of a
-- theorem in proofs/.
use Rattle.std.specs.Prelude.{ℕ, ◌+◌, ◌<◌, ◌≤◌, ◌^◌, ◌≡◌, Bool, true, false, List, length, get_or}
use Rattle.machine.specs.Word.{word}
use Rattle.machine.specs.Right.{holds}
use Rattle.machine.specs.Table.{domains, endpoints, rights_at, endpoint_at, rights_word, rights, endpoint}
use Rattle.machine.specs.Check.{rights_word_ok, queue_ok, header_ok, length_ok, Accepted}
use Rattle.repair_theory.specs.Mend.{mended_rights, mended_endpoint, mended, mendable}

-- The table t' is t mended, part by part.
pub record Mended (t t' : List ℕ) : Type 0 where
  pub size : length t' ≡ length t
  pub header : get_or t' 0 0 ≡ get_or t 0 0
  pub rights : (h g : ℕ) → h < domains t → g < domains t → rights_word t' h g ≡ mended_rights (rights_word t h g)
  pub endpoints : (e : ℕ) → e < endpoints t → endpoint t' e ≡ mended_endpoint (endpoint t e)

-- Where word 0 and the length are right, each holder's rights word on each target and each endpoint is mended.
abbrev pub EachPartMended : Type 0
EachPartMended = (t : List ℕ) → header_ok t ≡ true → length_ok t ≡ true → Mended t (mended t)

-- A table that can be mended is accepted once it is mended,
abbrev pub MendedAccepted : Type 0
MendedAccepted = (t : List ℕ) → mendable t ≡ true → Accepted (mended t)

-- and one that can't is still refused, so that 33 is answered only where mending is not enough.
abbrev pub UnmendableRefused : Type 0
UnmendableRefused = (t : List ℕ) → mendable t ≡ false → Accepted (mended t) → ⊥

-- A sound table stays.
abbrev pub SoundStays : Type 0
SoundStays = (t : List ℕ) → Accepted t → mended t ≡ t

-- From the table t to t' no holder got a right that its word didn't show. A word is read by its bits 27–0, a broken one too,
-- whatever its kind and whichever of them are set, so a broken word counts as one that showed all that they could mean.
abbrev pub AddsNoRight : List ℕ → List ℕ → Type 0
AddsNoRight t t' =
    (h g k : ℕ)
    → h < domains t
    → g < domains t
    → holds (rights t' h g) (2 ^ k) ≡ true
    → holds (rights t h g) (2 ^ k) ≡ true

-- Nor in any other reading of a word (by its kind too, by some of its bits, none of a broken word), so long as 20000000 shows none.
abbrev pub AddsNoRightInAnyReading : List ℕ → List ℕ → Type 0
AddsNoRightInAnyReading t t' =
    (shows : ℕ → ℕ → Bool)
    → ((r : ℕ) → shows (word 2 0) r ≡ false)
    → (h g r : ℕ)
    → h < domains t
    → g < domains t
    → shows (rights_word t' h g) r ≡ true
    → shows (rights_word t h g) r ≡ true

-- A place whose word may be altered: that of a broken rights word, or of a waiting, lost or slot word of an endpoint that has a
-- broken one.
pub data MayAlter (t : List ℕ) (i : ℕ) : Type 0 where
  broken_rights : (h g : ℕ) → h < domains t → g < domains t → i ≡ rights_at (domains t) h g → rights_word_ok (rights_word t h g) ≡ false → MayAlter t i
  broken_queue : (e k : ℕ) → e < endpoints t → 2 ≤ k → k < 12 → i ≡ endpoint_at (domains t) e + k → queue_ok (endpoint t e) ≡ false → MayAlter t i

-- From the table t to t' no other word was altered.
abbrev pub AltersOnlyBroken : List ℕ → List ℕ → Type 0
AltersOnlyBroken t t' = (i : ℕ) → (get_or t' i 0 ≡ get_or t i 0 → ⊥) → MayAlter t i

-- Mending adds no right and alters no other word.
abbrev pub NoRightAdded : Type 0
NoRightAdded = (t : List ℕ) → AddsNoRight t (mended t)

abbrev pub NoRightInAnyReading : Type 0
NoRightInAnyReading = (t : List ℕ) → AddsNoRightInAnyReading t (mended t)

abbrev pub OnlyBrokenAltered : Type 0
OnlyBrokenAltered = (t : List ℕ) → AltersOnlyBroken t (mended t)
