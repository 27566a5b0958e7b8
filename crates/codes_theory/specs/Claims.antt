-- What each code of the entry is for, what a run leaves of the answer space, and which domains and sets a call about rights may name:
-- closed statements about any words, each the type of a theorem in proofs/.
use Rattle.std.specs.Prelude.{ℕ, ◌*◌, ◌<◌, ◌≤◌, ◌≡◌, ◌⊎◌, ◌↔◌, List, length, take, drop}
use Rattle.machine.specs.Table.{domains}
use Rattle.machine.specs.Check.{table_code, Accepted}
use Rattle.machine.specs.Call.{Call, split}
use Rattle.machine.specs.Run as machine
use Rattle.machine.specs.Machine.{decide, Decision.grants, Decision.removes, Decision.revokes}
use Rattle.machine.specs.Entry.{entry_code}
use Rattle.machine.specs.Promise.{RunPromise}
use Rattle.codes_theory.specs.Layout.{HeaderHolds, LengthHolds, RightsHold, EndpointsHold}

-- ---- the codes

-- A table's code: 2 exactly where it is empty or word 0 breaks its layout; then 3 exactly where the length differs; then 4 exactly
-- where a rights word breaks its layout; then 5 exactly where an endpoint word does or a name repeats; 0 exactly where none of this is
-- so.
pub record TableCodeExactly (t : List ℕ) : Type 0 where
  pub two : (table_code t ≡ 2) ↔ (HeaderHolds t → ⊥)
  pub three : (table_code t ≡ 3) ↔ (HeaderHolds t × (LengthHolds t → ⊥))
  pub four : (table_code t ≡ 4) ↔ (HeaderHolds t × LengthHolds t × (RightsHold t → ⊥))
  pub five : (table_code t ≡ 5) ↔ (HeaderHolds t × LengthHolds t × RightsHold t × (EndpointsHold t → ⊥))
  pub accepted : (table_code t ≡ 0) ↔ (HeaderHolds t × LengthHolds t × RightsHold t × EndpointsHold t)

-- The entry's code, of the list ws on the table t with so many words lent for the answers and for the holders: 1 exactly where the list
-- is above 4,096 words; then the table's code; then 6 exactly where the answer space is under three words a call, or other than n words
-- are lent for the holders (document 02 (h)); 0 exactly where none of this is so.
pub record EntryCodeExactly (t ws : List ℕ) (size lent : ℕ) : Type 0 where
  pub one : (entry_code t ws size lent ≡ 1) ↔ (4096 < length ws)
  pub of_table : (n : ℕ) → 2 ≤ n → n ≤ 5 → (entry_code t ws size lent ≡ n) ↔ ((length ws ≤ 4096) × (table_code t ≡ n))
  pub six : (entry_code t ws size lent ≡ 6)
      ↔ ((length ws ≤ 4096) × Accepted t × ((size < 3 * length (split ws)) ⊎ (lent ≡ domains t → ⊥)))
  pub runs : (entry_code t ws size lent ≡ 0)
      ↔ ((length ws ≤ 4096) × Accepted t × (3 * length (split ws) ≤ size) × (lent ≡ domains t))

-- "The first failing place decides. The table is checked before any call runs" (document 01, 'Where each number is checked'), of the
-- places 2 to 5, for arbitrary words as a table.
abbrev pub EveryTableCodeExactly : Type 0
EveryTableCodeExactly = (t : List ℕ) → TableCodeExactly t

-- The same of the places 1 to 6.
abbrev pub EveryEntryCodeExactly : Type 0
EveryEntryCodeExactly = (t ws : List ℕ) (size lent : ℕ) → EntryCodeExactly t ws size lent

-- ---- the answer space

-- What a run of the list ws on the table t with so many calls left of the answer space: three words for each call of the list, which are
-- the machine's answers, and beyond them the words that were there.
pub record SpaceLeft (t ws space : List ℕ) (calls : ℕ) (left : List ℕ) : Type 0 where
  pub counted : calls ≡ length (split ws)
  pub answered : take (3 * calls) left ≡ machine.answers t (split ws)
  pub beyond : drop (3 * calls) left ≡ drop (3 * calls) space
  pub size : length left ≡ length space

-- "Space beyond three words a call is untouched" (document 01, 'The calls'), where the list ran, of the words that any function leaves
-- which keeps the promise of a run.
abbrev pub EverySpaceBeyondUntouched : Type 0
EverySpaceBeyondUntouched =
    (t ws space holders : List ℕ) (code calls : ℕ) (left end kept : List ℕ)
    → RunPromise t ws space holders code calls left end kept
    → code ≡ 0
    → SpaceLeft t ws space calls left

-- ---- the calls about rights

-- A grant, a remove and a revoke that aren't refused name domains below n and a set of rights from 1 to 15.
pub record NamesKnown (t : List ℕ) (c : Call) : Type 0 where
  pub grant : (g h r : ℕ) → decide t c ≡ grants g h r → (g < domains t) × (h < domains t) × (1 ≤ r) × (r ≤ 15)
  pub remove : (g h r : ℕ) → decide t c ≡ removes g h r → (g < domains t) × (1 ≤ r) × (r ≤ 15)
  pub revoke : (g h r : ℕ) → decide t c ≡ revokes g h r → (g < domains t) × (h < domains t) × (1 ≤ r) × (r ≤ 15)

-- 20 and 21 (document 01, 'Where each number is checked', with the sets of document 02 (b) and (i)), the other way round, on any table.
abbrev pub EveryCallNamesKnown : Type 0
EveryCallNamesKnown = (t : List ℕ) (c : Call) → NamesKnown t c
