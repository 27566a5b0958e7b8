-- Rows that pin the repair: a table, the lent list, and everything that results. Most damage words of T or of the table of four
-- domains and three endpoints. Worked out by hand from document 01, 'The table', and document 02, (k).
use Rattle.std.specs.Prelude.{ℕ, ◌≡◌, List, [], ◌∷◌, ◌++◌, take, set, replicate}
use Rattle.machine.specs.Examples.{T}
use Rattle.machine.specs.CodeExamples.{four_domains}
use Rattle.repair_theory.specs.Changes.{put_back}
use Rattle.repair_theory.specs.Repair.{RepairOutcome, repair}

-- a row: the outcome of the repair of a table with a lent list
pub record Row : Type 0 where
  pub table : List ℕ
  pub list : List ℕ
  pub leaves : RepairOutcome

-- every row holds of the definition
abbrev pub EveryRow : List Row → Type 0
EveryRow [] = Unit {0}
EveryRow (r ∷ rs) = (repair r.table r.list ≡ r.leaves) × EveryRow rs

-- the table t with n words altered becomes end, and the pairs reported are at the front of a list of twenty sevens
abbrev pub mends : List ℕ → ℕ → List ℕ → List ℕ → List ℕ → Row
mends t n end reported rest =
    record { table = t; list = replicate 20 7; leaves = record { code = 0; count = n; table = end; list = reported ++ rest } }

-- a refusal by a code leaves the table t and the list
abbrev pub refuses : ℕ → List ℕ → List ℕ → Row
refuses n t list = record { table = t; list = list; leaves = record { code = n; count = 0; table = t; list = list } }

-- sevens that are left
abbrev pub sevens : ℕ → List ℕ
sevens n = replicate n 7

-- a sound table stays and yields an empty list
abbrev pub sound_rows : List Row
sound_rows =
    mends four_domains 0 four_domains [] (sevens 20)
    ∷ record { table = T; list = []; leaves = record { code = 0; count = 0; table = T; list = [] } }
    ∷ []

-- a broken rights word, of which the low bits are a right, and the last: 20000000
abbrev pub rights_rows : List Row
rights_rows =
    mends (set T 2 0x3000_0001) 1 (set T 2 0x2000_0000) (2 ∷ 0x3000_0001 ∷ []) (sevens 18)
    ∷ mends (set T 9 0) 1 T (9 ∷ 0 ∷ []) (sevens 18)
    ∷ []

-- a broken queue word: a waiting word above the capacity, and the last slot of all. The queue is emptied. Its words that already are
-- those of an empty queue aren't reported, and a sound lost count that isn't 0 is.
abbrev pub queue_rows : List Row
queue_rows =
    mends (set four_domains 19 0x5000_0003) 3
    (set (set (set four_domains 19 0x5000_0000) 20 0x6000_0000) 21 0xF000_0000)
    (19 ∷ 0x5000_0003 ∷ 20 ∷ 0x6FFF_FFFF ∷ 21 ∷ 0xFABC_DEF1 ∷ [])
    (sevens 14)
    ∷ mends (set four_domains 52 0xF800_0000) 4
    (set (set (set four_domains 43 0x5000_0000) 45 0xF000_0000) 46 0xF000_0000)
    (43 ∷ 0x5000_0002 ∷ 45 ∷ 0xF000_0001 ∷ 46 ∷ 0xF000_0002 ∷ 52 ∷ 0xF800_0000 ∷ [])
    (sevens 12)
    ∷ []

-- a rights word and two queues at once: eight words
abbrev pub worn : List ℕ
worn = set (set (set four_domains 5 0) 28 0xE000_0000) 43 0x5000_0009

abbrev pub damaged_mended : List ℕ
damaged_mended =
    set (set (set (set (set (set (set four_domains 5 0x2000_0000) 19 0x5000_0000) 20 0x6000_0000) 21 0xF000_0000) 43 0x5000_0000) 45 0xF000_0000) 46 0xF000_0000

abbrev pub damaged_reported : List ℕ
damaged_reported =
    5 ∷ 0
    ∷ 19 ∷ 0x5000_0001
    ∷ 20 ∷ 0x6FFF_FFFF
    ∷ 21 ∷ 0xFABC_DEF1
    ∷ 28 ∷ 0xE000_0000
    ∷ 43 ∷ 0x5000_0009
    ∷ 45 ∷ 0xF000_0001
    ∷ 46 ∷ 0xF000_0002
    ∷ []

-- the list: longer, of exactly two words for each word altered, and one word less
abbrev pub list_rows : List Row
list_rows =
    mends worn 8 damaged_mended damaged_reported (sevens 4)
    ∷ record { table = worn; list = sevens 16; leaves = record { code = 0; count = 8; table = damaged_mended; list = damaged_reported } }
    ∷ refuses 34 worn (sevens 15)
    ∷ []

-- 33: word 0, the length, a name, an info, and a name that repeats
abbrev pub frame_rows : List Row
frame_rows =
    refuses 33 (set T 0 0x2000_0302) (sevens 20)
    ∷ refuses 33 (take 33 T) (sevens 20)
    ∷ refuses 33 (set T 10 0x2000_0011) (sevens 20)
    ∷ refuses 33 (set T 11 0x4000_0302) (sevens 20)
    ∷ refuses 33 (set T 22 0x3000_0011) (sevens 20)
    -- where a rights word is broken too, and before 34
    ∷ refuses 33 (set (set T 2 0x3000_0001) 11 0x4000_0109) []
    ∷ []

-- putting back: the pairs in their order, and a word that is left over is ignored
abbrev pub PutBackHolds : Type 0
PutBackHolds =
    (put_back damaged_mended damaged_reported ≡ worn)
    × (put_back T (2 ∷ 0x3000_0001 ∷ 2 ∷ 0x2000_0017 ∷ 33 ∷ []) ≡ set T 2 0x2000_0017)
    × (put_back T [] ≡ T)
