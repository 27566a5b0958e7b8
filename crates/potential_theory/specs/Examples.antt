-- Rows that pin the potential rights, and the lists that give them, on small tables. Inputs and outcomes are literals, worked out
-- by hand. A matrix is written holder by holder: SEND 1, GRANT 2, REMOVE 4, REVOKE 8.
use Rattle.std.specs.Prelude.{ℕ, ◌*◌, ◌≡◌, List, [], ◌∷◌, map}
use Rattle.machine.specs.Word.{word}
use Rattle.machine.specs.Call.{split}
use Rattle.machine.specs.Run.{run}
use Rattle.potential_theory.specs.Closure.{potential}
use Rattle.potential_theory.specs.Lists.{potential_list}

-- A row is one of three: from a table and those that act to the matrix of potential rights, or to the list that gives them, or,
-- once a list was run from the table, to the matrix.
pub data PotentialRow : Type 0 where
  could : (table : List ℕ) (actors : ℕ) (matrix : List ℕ) → PotentialRow
  lists : (table : List ℕ) (actors : ℕ) (words : List ℕ) → PotentialRow
  after : (table list : List ℕ) (actors : ℕ) (matrix : List ℕ) → PotentialRow

-- what a row says
abbrev pub PotentialRowHolds : PotentialRow → Type 0
PotentialRowHolds (could t s m) = potential t s ≡ m
PotentialRowHolds (lists t s ws) = potential_list t s ≡ ws
PotentialRowHolds (after t ws s m) = potential (run t (split ws)) s ≡ m

-- the single claim about a list of such rows: each holds
abbrev pub EveryPotentialRow : List PotentialRow → Type 0
EveryPotentialRow [] = Unit {0}
EveryPotentialRow (r ∷ rs) = PotentialRowHolds r × EveryPotentialRow rs

-- a table of n domains without endpoints, by its matrix
abbrev pub bare : ℕ → List ℕ → List ℕ
bare n m = word 1 (n * 256) ∷ map (word 2) m

-- 0 has SEND and GRANT on 3, and SEND on 1; 1 has SEND on 2
abbrev pub four_in_chain : List ℕ
four_in_chain =
    bare 4
    (0 ∷ 1 ∷ 0 ∷ 3
    ∷ 0 ∷ 0 ∷ 1 ∷ 0
    ∷ 0 ∷ 0 ∷ 0 ∷ 0
    ∷ 0 ∷ 0 ∷ 0 ∷ 0 ∷ [])

-- 3 has SEND and GRANT on itself, and each but 0 has SEND on the one before
abbrev pub four_backwards : List ℕ
four_backwards =
    bare 4
    (0 ∷ 0 ∷ 0 ∷ 0
    ∷ 1 ∷ 0 ∷ 0 ∷ 0
    ∷ 0 ∷ 1 ∷ 0 ∷ 0
    ∷ 0 ∷ 0 ∷ 1 ∷ 3 ∷ [])

-- 0 and 2 have GRANT and REVOKE on themselves; 2 has SEND on 1, and 1 on 0
abbrev pub three_in_order : List ℕ
three_in_order =
    bare 3
    (10 ∷ 0 ∷ 0
    ∷ 1 ∷ 0 ∷ 0
    ∷ 0 ∷ 1 ∷ 10 ∷ [])

-- 1 has SEND and GRANT on 2, and SEND on 0
abbrev pub by_a_third : List ℕ
by_a_third =
    bare 3
    (0 ∷ 0 ∷ 0
    ∷ 1 ∷ 0 ∷ 3
    ∷ 0 ∷ 0 ∷ 0 ∷ [])

-- 0 has GRANT and REVOKE on 2, and REVOKE on 1
abbrev pub revoke_on : List ℕ
revoke_on =
    bare 3
    (0 ∷ 8 ∷ 10
    ∷ 0 ∷ 0 ∷ 0
    ∷ 0 ∷ 0 ∷ 0 ∷ [])

-- 0 has SEND and REMOVE on 2; 1 has SEND and GRANT on 2, and SEND on 0
abbrev pub removable : List ℕ
removable =
    bare 3
    (0 ∷ 0 ∷ 5
    ∷ 1 ∷ 0 ∷ 3
    ∷ 0 ∷ 0 ∷ 0 ∷ [])

-- the rows
abbrev pub potential_rows : List PotentialRow
potential_rows =
    -- a chain of grants over four domains: 2 could have what 0 has on 3, and so could 3 itself
    could four_in_chain 0b1111
    (0 ∷ 1 ∷ 0 ∷ 3
    ∷ 0 ∷ 0 ∷ 1 ∷ 3
    ∷ 0 ∷ 0 ∷ 0 ∷ 3
    ∷ 0 ∷ 0 ∷ 0 ∷ 3 ∷ [])
    ∷ lists four_in_chain 0b1111 (0x6003_0103 ∷ 0x6003_0303 ∷ 0x6043_0203 ∷ [])
    -- where 1 doesn't act the chain ends at it
    ∷ could four_in_chain 0b1101
    (0 ∷ 1 ∷ 0 ∷ 3
    ∷ 0 ∷ 0 ∷ 1 ∷ 3
    ∷ 0 ∷ 0 ∷ 0 ∷ 0
    ∷ 0 ∷ 0 ∷ 0 ∷ 3 ∷ [])
    -- against the order of the rounds, from a GRANT on oneself
    ∷ could four_backwards 0b1111
    (0 ∷ 0 ∷ 0 ∷ 3
    ∷ 1 ∷ 0 ∷ 0 ∷ 3
    ∷ 0 ∷ 1 ∷ 0 ∷ 3
    ∷ 0 ∷ 0 ∷ 1 ∷ 3 ∷ [])
    ∷ lists four_backwards 0b1111 (0x60C3_0203 ∷ 0x6083_0103 ∷ 0x6043_0003 ∷ [])
    -- four rounds that add something, among three domains
    ∷ could three_in_order 0b111
    (11 ∷ 0 ∷ 10
    ∷ 11 ∷ 0 ∷ 10
    ∷ 11 ∷ 1 ∷ 10 ∷ [])
    ∷ lists three_in_order 0b111 (0x6082_010A ∷ 0x6042_000A ∷ 0x6000_020A ∷ 0x6080_010A ∷ 0x6040_000B ∷ 0x6040_020B ∷ [])
    -- 0 can't give itself a right on 2, but 1 can give it one. Those that don't act give nothing
    ∷ could by_a_third 0b101
    (0 ∷ 0 ∷ 0
    ∷ 1 ∷ 0 ∷ 3
    ∷ 0 ∷ 0 ∷ 0 ∷ [])
    ∷ lists by_a_third 0b101 []
    ∷ could by_a_third 0b010
    (0 ∷ 0 ∷ 3
    ∷ 1 ∷ 0 ∷ 3
    ∷ 0 ∷ 0 ∷ 3 ∷ [])
    ∷ lists by_a_third 0b010 (0x6042_0003 ∷ 0x6042_0203 ∷ [])
    -- REVOKE is passed on like any right, and is enough to reach the recipient
    ∷ could revoke_on 0b111
    (0 ∷ 8 ∷ 10
    ∷ 0 ∷ 0 ∷ 10
    ∷ 0 ∷ 0 ∷ 10 ∷ [])
    -- 0 gives up SEND and REMOVE on 2. SEND could come back from 1, with GRANT. REMOVE, which nobody else has, could not
    ∷ after removable (0x7002_0005 ∷ []) 0b111 (0 ∷ 0 ∷ 3 ∷ 1 ∷ 0 ∷ 3 ∷ 0 ∷ 0 ∷ 3 ∷ [])
    ∷ []
