-- Rows that pin the check of a table, word by word: a table and its code, 0 or 2 to 5. Most alter one word of an accepted table
-- of four domains and three endpoints (specs/CodeExamples); then the length and the order of the places. Worked out by hand from
-- document 01, 'The table' and 'Where each number is checked'.
use Rattle.std.specs.Prelude.{ℕ, ◌≡◌, List, [], ◌∷◌, ◌++◌, take, set}
use Rattle.machine.specs.Check.{table_code}
use Rattle.machine.specs.CodeExamples.{four_domains}

-- a table and its code
pub data Coded : Type 0 where
  coded : (table : List ℕ) (code : ℕ) → Coded

-- four domains with other words at one place, each of which makes the same code
unfoldable pub altered : ℕ → List ℕ → ℕ → List Coded
altered at [] c = []
altered at (w ∷ ws) c = coded (set four_domains at w) c ∷ altered at ws c

-- the codes that the rows name, and those that the check gives
unfoldable pub named_codes : List Coded → List ℕ
named_codes [] = []
named_codes (coded t c ∷ rest) = c ∷ named_codes rest

unfoldable pub found_codes : List Coded → List ℕ
found_codes [] = []
found_codes (coded t c ∷ rest) = table_code t ∷ found_codes rest

-- the single claim about lists of such rows: each table has its code
abbrev pub EveryTable : List (List Coded) → Type 0
EveryTable [] = Unit {0}
EveryTable (rs ∷ rest) = (found_codes rs ≡ named_codes rs) × EveryTable rest

-- word 0: its kind, the lowest and the highest of bits 27–16, n from 1 to 16 and m to 32 up to the highest of their bits (where they
-- are in range but not the table's own, the length is what differs)
abbrev pub header_rows : List Coded
header_rows =
    altered 0 (0x0000_0403 ∷ 0x9000_0403 ∷ 0x1001_0403 ∷ 0x1800_0403 ∷ 0x1000_8403 ∷ 0x1000_0421 ∷ 0x1000_0483 ∷ []) 2
    ++ altered 0 (0x1000_0103 ∷ 0x1000_1003 ∷ 0x1000_0400 ∷ 0x1000_0420 ∷ []) 3

-- the first rights word: the kind, and bits 27–4; every right at once
abbrev pub rights_rows : List Coded
rights_rows =
    altered 1 (0x0000_0000 ∷ 0xA000_0000 ∷ 0x2000_0100 ∷ 0x2800_0000 ∷ []) 4
    ++ altered 1 (0x2000_000F ∷ []) 0

-- a name: the kind, and not zero in bits 27–0 taken together
abbrev pub name_rows : List Coded
name_rows =
    altered 17 (0x2FFF_FFFF ∷ 0xBFFF_FFFF ∷ 0x3000_0000 ∷ []) 5
    ++ altered 17 (0x3000_0001 ∷ 0x3000_0100 ∷ 0x3800_0000 ∷ []) 0
    -- a name that another endpoint has, first and last, or side by side; then names that differ from one in a single bit
    ++ altered 41 (0x3FFF_FFFF ∷ 0x3000_0005 ∷ []) 5
    ++ altered 41 (0x3000_0105 ∷ 0x3800_0005 ∷ []) 0

-- an info: the kind, the lowest and the highest of bits 27–16, an owner below n and a capacity from 1 to 8, up to the highest of
-- their bits
abbrev pub info_rows : List Coded
info_rows =
    altered 18 (0x3000_0102 ∷ 0xC000_0102 ∷ 0x4001_0102 ∷ 0x4800_0102 ∷ 0x4000_0402 ∷ 0x4000_8102 ∷ []) 5
    ++ altered 30 (0x4000_0000 ∷ 0x4000_0009 ∷ 0x4000_0081 ∷ []) 5

-- a waiting count: the kind, and at most the capacity, which is 1, in bits 27–0 taken together; a slot that counts may hold message 0
abbrev pub waiting_rows : List Coded
waiting_rows =
    altered 31 (0x4000_0000 ∷ 0xD000_0000 ∷ 0x5800_0000 ∷ []) 5
    ++ altered 31 (0x5000_0001 ∷ []) 0

-- a lost count: the kind alone
abbrev pub lost_rows : List Coded
lost_rows = altered 20 (0x5FFF_FFFF ∷ 0xEFFF_FFFF ∷ []) 5

-- the slots: the kind where a message waits, which may be 0; all of F0000000 from the waiting count on, the last of all too; eight
-- messages, of which the last is no slot
abbrev pub slot_rows : List Coded
slot_rows =
    altered 21 (0xEABC_DEF1 ∷ []) 5
    ++ altered 21 (0xF000_0000 ∷ []) 0
    ++ altered 22 (0xF000_0001 ∷ 0xF800_0000 ∷ 0xE000_0000 ∷ []) 5
    ++ altered 52 (0xF800_0000 ∷ []) 5
    ++ (coded (set (set four_domains 43 0x5000_0008) 52 0xE000_0000) 5 ∷ [])

-- the length: a word too many. The order of the last three places.
abbrev pub order_rows : List Coded
order_rows =
    coded four_domains 0
    ∷ coded (four_domains ++ (0xF000_0000 ∷ [])) 3
    ∷ coded (take 52 (set four_domains 16 0x2000_0010)) 3
    ∷ coded (take 52 (set four_domains 17 0x3000_0000)) 3
    ∷ coded (set (set four_domains 16 0x2000_0010) 17 0x3000_0000) 4
    ∷ []

abbrev pub table_rows : List (List Coded)
table_rows =
    header_rows ∷ rights_rows ∷ name_rows ∷ info_rows ∷ waiting_rows ∷ lost_rows ∷ slot_rows ∷ order_rows ∷ []
