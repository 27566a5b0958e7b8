-- Rows that pin connected components and the calls kept for a domain (document 02 (j)), on small tables. Inputs and outcomes are
-- literals, worked out by hand.
use Rattle.std.specs.Prelude.{ℕ, ◌+◌, ◌/◌, ◌%◌, ◌≡◌, cond, List, [], ◌∷◌, ◌++◌, eqb}
use Rattle.machine.specs.Below.{words_below}
use Rattle.machine.specs.Table.{domains}
use Rattle.machine.specs.Call.{Call, split, Call.one, Call.two}
use Rattle.machine.specs.Run.{run, answers}
use Rattle.machine.specs.Purge.{View, view}
use Rattle.machine.specs.Examples.{empty_slots}
use Rattle.isolation_theory.specs.Component.{component, component_calls}

-- what the rows state: the component of d, the kept calls, and what d sees of the whole run
pub record Kept : Type 0 where
  pub members : ℕ
  pub calls : List Call
  pub seen : View

-- all of that, of the calls cs run from the table t, for the domain d
unfoldable pub kept : List ℕ → List Call → ℕ → Kept
kept t cs d = record { members = component t d; calls = component_calls t cs d; seen = view d cs (answers t cs) (run t cs) }

-- A row: the components of all domains of a table, lowest index first, or what is kept of a list for a domain, from a table.
pub data ComponentRow : Type 0 where
  components : (table members : List ℕ) → ComponentRow
  keeps : (table list : List ℕ) (d : ℕ) (outcome : Kept) → ComponentRow

-- what a row says
abbrev pub ComponentRowHolds : ComponentRow → Type 0
ComponentRowHolds (components t members) = words_below (domains t) (component t) ≡ members
ComponentRowHolds (keeps t ws d o) = kept t (split ws) d ≡ o

-- the single claim about a list of such rows: each holds
abbrev pub EveryComponentRow : List ComponentRow → Type 0
EveryComponentRow [] = Unit {0}
EveryComponentRow (r ∷ rs) = ComponentRowHolds r × EveryComponentRow rs

-- the six rights words of a domain that has none
abbrev pub none6 : List ℕ
none6 = 0x2000_0000 ∷ 0x2000_0000 ∷ 0x2000_0000 ∷ 0x2000_0000 ∷ 0x2000_0000 ∷ 0x2000_0000 ∷ []

-- Six domains. A chain of three: 0 has SEND and REMOVE on 1, and 2 has SEND on 1. 4 has SEND on 3, and 3 has nothing. 5 has SEND
-- on itself alone. An endpoint is 1's, another 3's.
abbrev pub six_domains : List ℕ
six_domains =
    0x1000_0602
    ∷ (0x2000_0000 ∷ 0x2000_0005 ∷ 0x2000_0000 ∷ 0x2000_0000 ∷ 0x2000_0000 ∷ 0x2000_0000 ∷ [])
    ++ none6
    ++ (0x2000_0000 ∷ 0x2000_0001 ∷ 0x2000_0000 ∷ 0x2000_0000 ∷ 0x2000_0000 ∷ 0x2000_0000 ∷ [])
    ++ none6
    ++ (0x2000_0000 ∷ 0x2000_0000 ∷ 0x2000_0000 ∷ 0x2000_0001 ∷ 0x2000_0000 ∷ 0x2000_0000 ∷ [])
    ++ (0x2000_0000 ∷ 0x2000_0000 ∷ 0x2000_0000 ∷ 0x2000_0000 ∷ 0x2000_0000 ∷ 0x2000_0001 ∷ [])
    ++ (0x3000_0001 ∷ 0x4000_0102 ∷ 0x5000_0000 ∷ 0x6000_0000 ∷ empty_slots)
    ++ (0x3000_0002 ∷ 0x4000_0302 ∷ 0x5000_0000 ∷ 0x6000_0000 ∷ empty_slots)

-- Sixteen domains in a line: each has SEND on the next, and no other right.
abbrev pub sixteen_in_line : List ℕ
sixteen_in_line = 0x1000_1000 ∷ words_below 256 (λ i. cond (eqb (i / 16 + 1) (i % 16)) 0x2000_0001 0x2000_0000)

-- Calls from all of them. 0 sends 7 to 1, 4 sends 9 to 3, and 0 gives up its rights on 1. Then a stray that names 1, and the
-- unknown caller 6. 2 sends 8 to 1, and makes a call of an unknown kind. 1 and 3 receive, and 5 asks for its rights.
abbrev pub mixed_calls : List ℕ
mixed_calls =
    0x2000_0000
    ∷ 0xF000_0007
    ∷ 0x2100_0100
    ∷ 0xF000_0009
    ∷ 0x7001_0001
    ∷ 0x7001_0004
    ∷ 0xF040_0003
    ∷ 0x5180_0000
    ∷ 0x2080_0000
    ∷ 0xF000_0008
    ∷ 0x9080_0000
    ∷ 0x3040_0000
    ∷ 0x30C0_0100
    ∷ 0x5140_0000
    ∷ []

-- the rows
abbrev pub component_rows : List ComponentRow
component_rows =
    -- a chain of three, a component by a right of the other domain alone, and a domain alone
    components six_domains (0b000111 ∷ 0b000111 ∷ 0b000111 ∷ 0b011000 ∷ 0b011000 ∷ 0b100000 ∷ [])
    -- a chain of sixteen: from each end fifteen joins lead to the other
    ∷ components sixteen_in_line
    (0xFFFF ∷ 0xFFFF ∷ 0xFFFF ∷ 0xFFFF ∷ 0xFFFF ∷ 0xFFFF ∷ 0xFFFF ∷ 0xFFFF ∷ 0xFFFF ∷ 0xFFFF ∷ 0xFFFF ∷ 0xFFFF ∷ 0xFFFF ∷ 0xFFFF ∷ 0xFFFF ∷ 0xFFFF ∷ [])
    -- for 1 the calls of 0, 1 and 2 are kept: also those of 0, which has no right on 1 in the end
    ∷ keeps six_domains mixed_calls 1
    (record {
      members = 0b000111;
      calls =
          two 0x2000_0000 0xF000_0007
          ∷ one 0x7001_0001
          ∷ one 0x7001_0004
          ∷ two 0x2080_0000 0xF000_0008
          ∷ one 0x9080_0000
          ∷ one 0x3040_0000
          ∷ [];
      seen =
          record {
            answers = 0x3040_0000 ∷ 7 ∷ 0 ∷ [];
            rights = none6;
            queues =
                (0, 0x5000_0001 ∷ 0xF000_0008 ∷ 0xF000_0000 ∷ 0xF000_0000 ∷ 0xF000_0000 ∷ 0xF000_0000 ∷ 0xF000_0000 ∷ 0xF000_0000 ∷ 0xF000_0000 ∷ [])
                ∷ [];
            lost = (0, 0x6000_0000) ∷ [];
          };
    })
    -- for 3 those of 3 and 4
    ∷ keeps six_domains mixed_calls 3
    (record {
      members = 0b011000;
      calls = two 0x2100_0100 0xF000_0009 ∷ one 0x30C0_0100 ∷ [];
      seen =
          record {
            answers = 0x30C0_0000 ∷ 9 ∷ 0 ∷ [];
            rights = none6;
            queues = (1, 0x5000_0000 ∷ empty_slots) ∷ [];
            lost = (1, 0x6000_0000) ∷ [];
          };
    })
    -- for 5 its own alone
    ∷ keeps six_domains mixed_calls 5
    (record {
      members = 0b100000;
      calls = one 0x5140_0000 ∷ [];
      seen =
          record {
            answers = 0x5140_0000 ∷ 0x10_0000 ∷ 0 ∷ [];
            rights = 0x2000_0000 ∷ 0x2000_0000 ∷ 0x2000_0000 ∷ 0x2000_0000 ∷ 0x2000_0000 ∷ 0x2000_0001 ∷ [];
            queues = [];
            lost = [];
          };
    })
    ∷ []
