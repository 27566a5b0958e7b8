-- The worked example and its edges: list L and P1 to P12 of document 01, 'Into firmware and onto the bench', as one list
-- of rows under a single claim. Inputs and outcomes are literals, worked out by hand from the paper.
use Rattle.std.specs.Prelude.{ℕ, ◌≡◌, List, [], ◌∷◌, ◌++◌, take, set, replicate}
use Rattle.machine.specs.Call.{Call, split, Call.one, Call.two}
use Rattle.machine.specs.Entry.{Outcome, entry}
use Rattle.machine.specs.Purge.{purge}

-- A row: from a table, a list, an answer space and the words lent for the holders to everything that the entry leaves, or to the
-- calls kept for a domain.
pub data Row : Type 0 where
  leaves : (table list space holders : List ℕ) (outcome : Outcome) → Row
  keeps : (table list : List ℕ) (d : ℕ) (kept : List Call) → Row

-- what a row says
abbrev pub RowHolds : Row → Type 0
RowHolds (leaves t ws space holders o) = entry t ws space holders ≡ o
RowHolds (keeps t ws d cs) = purge t (split ws) d ≡ cs

-- the single claim about a list of rows: each holds
abbrev pub EveryRow : List Row → Type 0
EveryRow [] = Unit {0}
EveryRow (r ∷ rs) = RowHolds r × EveryRow rs

-- eight slots with no message
abbrev pub empty_slots : List ℕ
empty_slots = replicate 8 0xF000_0000

-- table T: its first word and its rights, then its two endpoints
abbrev pub rights_t : List ℕ
rights_t =
    0x1000_0302
    ∷ 0x2000_0000
    ∷ 0x2000_0001
    ∷ 0x2000_0000
    ∷ 0x2000_0001
    ∷ 0x2000_0000
    ∷ 0x2000_0007
    ∷ 0x2000_0000
    ∷ 0x2000_0000
    ∷ 0x2000_0000
    ∷ []

abbrev pub endpoints_t : List ℕ
endpoints_t =
    (0x3000_0011 ∷ 0x4000_0102 ∷ 0x5000_0000 ∷ 0x6000_0000 ∷ empty_slots)
    ++ (0x3000_0012 ∷ 0x4000_0201 ∷ 0x5000_0000 ∷ 0x6000_0000 ∷ empty_slots)

abbrev pub T : List ℕ
T = rights_t ++ endpoints_t

-- list L
abbrev pub L : List ℕ
L =
    0x2000_0100
    ∷ 0xF000_0005
    ∷ 0x6042_0001
    ∷ 0x2000_0100
    ∷ 0xF000_0005
    ∷ 0x2000_0100
    ∷ 0xF000_0006
    ∷ 0x3080_0100
    ∷ 0x3080_0100
    ∷ 0xF000_0009
    ∷ 0x5000_0000
    ∷ 0x4080_0000
    ∷ []

-- its answers: call 0 code 17, call 4 data 6 and 1, call 5 code 19, call 6 code 10, call 7 data 272, call 8 data 2
abbrev pub answers_l : List ℕ
answers_l =
    (0x2000_0011 ∷ 0 ∷ 0 ∷ [])
    ++ (0x6040_0000 ∷ 0 ∷ 0 ∷ [])
    ++ (0x2000_0000 ∷ 0 ∷ 0 ∷ [])
    ++ (0x2000_0000 ∷ 0 ∷ 0 ∷ [])
    ++ (0x3080_0000 ∷ 6 ∷ 1 ∷ [])
    ++ (0x3080_0013 ∷ 0 ∷ 0 ∷ [])
    ++ (0xF000_000A ∷ 0 ∷ 0 ∷ [])
    ++ (0x5000_0000 ∷ 272 ∷ 0 ∷ [])
    ++ (0x4080_0000 ∷ 2 ∷ 0 ∷ [])

-- T after L: domain 0 has SEND on domain 2, and endpoint 1 has lost one message
abbrev pub table_l : List ℕ
table_l = set (set T 3 0x2000_0001) 25 0x6000_0001

-- who has a right on whom in T: domain 1 on 0, 0 on 1, and 1 on 2 (document 02 (h))
abbrev pub holders_t : List ℕ
holders_t = 2 ∷ 1 ∷ 2 ∷ []

-- k words that a run must write over or leave: an answer space, or the words lent for the holders
abbrev pub space_of : ℕ → List ℕ
space_of k = replicate k 0xDEAD_BEEF

-- what a refusal leaves of a table, an answer space and the words lent for the holders
abbrev pub unchanged : ℕ → List ℕ → List ℕ → List ℕ → Outcome
unchanged n t space holders = record { code = n; calls = 0; table = t; answers = space; holders = holders }

-- tables that the edges alter in one word
abbrev pub T4 : List ℕ
T4 = set T 0 0x1000_1101

abbrev pub T5 : List ℕ
T5 = set T 0 0x1000_0002

abbrev pub T6 : List ℕ
T6 = set T 9 0x2000_0010

abbrev pub T7 : List ℕ
T7 = set T 24 0x5000_0002

-- L and P1 to P12
abbrev pub rows : List Row
rows =
    -- L itself: two words of space are left over; the grant sets domain 0's bit in the word of domain 2
    leaves T L (space_of 29) (space_of 3)
    (record { code = 0; calls = 9; table = table_l; answers = answers_l ++ space_of 2; holders = 2 ∷ 1 ∷ 3 ∷ [] })
    -- P1: an empty list sets the holders too
    ∷ leaves T [] (space_of 1) (space_of 3) (record { code = 0; calls = 0; table = T; answers = space_of 1; holders = holders_t })
    -- P2
    ∷ leaves T L (space_of 27) (space_of 3)
    (record { code = 0; calls = 9; table = table_l; answers = answers_l; holders = 2 ∷ 1 ∷ 3 ∷ [] })
    ∷ leaves T L (space_of 26) (space_of 3) (unchanged 6 T (space_of 26) (space_of 3))
    -- P3
    ∷ leaves (take 33 T) L (space_of 27) (space_of 3) (unchanged 3 (take 33 T) (space_of 27) (space_of 3))
    -- P4
    ∷ leaves T4 L (space_of 27) (space_of 3) (unchanged 2 T4 (space_of 27) (space_of 3))
    -- P5
    ∷ leaves T5 L (space_of 27) (space_of 3) (unchanged 2 T5 (space_of 27) (space_of 3))
    -- P6: a bit above the four rights (document 02 (i))
    ∷ leaves T6 L (space_of 27) (space_of 3) (unchanged 4 T6 (space_of 27) (space_of 3))
    -- P7
    ∷ leaves T7 L (space_of 27) (space_of 3) (unchanged 5 T7 (space_of 27) (space_of 3))
    -- P8: by itself, and after another call
    ∷ leaves T (0x2000_0100 ∷ []) (space_of 3) (space_of 3)
    (record { code = 0; calls = 1; table = T; answers = 0x2000_000E ∷ 0 ∷ 0 ∷ []; holders = holders_t })
    ∷ leaves T (0x4080_0000 ∷ 0x2000_0100 ∷ []) (space_of 6) (space_of 3)
    (record {
      code = 0;
      calls = 2;
      table = T;
      answers = 0x4080_0000 ∷ 2 ∷ 0 ∷ 0x2000_000E ∷ 0 ∷ 0 ∷ [];
      holders = holders_t;
    })
    -- P9
    ∷ leaves T (0x50C0_0000 ∷ []) (space_of 3) (space_of 3)
    (record { code = 0; calls = 1; table = T; answers = 0x50C0_000C ∷ 0 ∷ 0 ∷ []; holders = holders_t })
    -- P10: done (document 02 (b)); one right of three is left, so the bit stays
    ∷ leaves T (0x7042_0003 ∷ []) (space_of 3) (space_of 3)
    (record {
      code = 0;
      calls = 1;
      table = set T 6 0x2000_0004;
      answers = 0x7040_0000 ∷ 0 ∷ 0 ∷ [];
      holders = holders_t;
    })
    -- P11: both of its calls
    ∷ leaves T (0x7042_0004 ∷ 0x7042_0004 ∷ []) (space_of 6) (space_of 3)
    (record {
      code = 0;
      calls = 2;
      table = set T 6 0x2000_0003;
      answers = 0x7040_0000 ∷ 0 ∷ 0 ∷ 0x7040_0016 ∷ 0 ∷ 0 ∷ [];
      holders = holders_t;
    })
    -- P12: for domain 1 the calls 4, 5, 6 and 8 are purged
    ∷ keeps T L 1
    (two 0x2000_0100 0xF000_0005
    ∷ one 0x6042_0001
    ∷ two 0x2000_0100 0xF000_0005
    ∷ two 0x2000_0100 0xF000_0006
    ∷ one 0x5000_0000
    ∷ [])
    ∷ []
