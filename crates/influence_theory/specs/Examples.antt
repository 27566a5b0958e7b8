-- Rows that pin those that could influence a domain, and the lists that make them its sources, on small tables. One is the example
-- of six calls in which a domain is a source though no table has a chain of rights from it. Inputs and outcomes are literals,
-- worked out by hand.
use Rattle.std.specs.Prelude.{ℕ, ◌^◌, ◌<◌, ◌≡◌, List, [], ◌∷◌, ◌++◌, map}
use Rattle.std.specs.Int.Bits.{bit_or}
use Rattle.machine.specs.Below.{words_below}
use Rattle.machine.specs.Word.{word}
use Rattle.machine.specs.Table.{domains}
use Rattle.machine.specs.Check.{Accepted}
use Rattle.machine.specs.Call.{Call, split, Call.one, Call.two}
use Rattle.machine.specs.Machine.{step}
use Rattle.machine.specs.Run.{run, answers}
use Rattle.machine.specs.Influence.{reaches}
use Rattle.machine.specs.Purge.{view}
use Rattle.machine.specs.Examples.{empty_slots}
use Rattle.machine.specs.PurgeExamples.{PurgeRow, PurgeRow.pins, just_one}
use Rattle.reachability.specs.Closure.{closed}
use Rattle.reachability.specs.Chain.{link_words}
use Rattle.isolation_theory.specs.Component.{calls_from}
use Rattle.potential_theory.specs.Examples.{bare, four_in_chain, by_a_third}
use Rattle.influence_theory.specs.Influence.{could_influence}
use Rattle.influence_theory.specs.Lists.{influence_list}

-- those with a chain of rights to d in the table t, as bits
unfoldable pub chains_to : List ℕ → ℕ → ℕ
chains_to t d = closed (link_words (domains t) (reaches t)) (2 ^ d)

-- in each table along calls: before each, and after the last
unfoldable pub chains_along : List ℕ → List Call → ℕ → List ℕ
chains_along t [] d = chains_to t d ∷ []
chains_along t (c ∷ cs) d = chains_to t d ∷ chains_along (step t c) cs d

-- A row is one of three: from a table and those that act to the sets of all its domains, lowest index first, or to the list that
-- makes the sources; or from a table, a list and a domain to those that have a chain of rights to it in each table along the list.
pub data InfluenceRow : Type 0 where
  could : (table : List ℕ) (actors : ℕ) (sets : List ℕ) → InfluenceRow
  lists : (table : List ℕ) (actors : ℕ) (words : List ℕ) → InfluenceRow
  chains : (table list : List ℕ) (d : ℕ) (sets : List ℕ) → InfluenceRow

-- what a row says
abbrev pub InfluenceRowHolds : InfluenceRow → Type 0
InfluenceRowHolds (could t s sets) = words_below (domains t) (could_influence t s) ≡ sets
InfluenceRowHolds (lists t s ws) = influence_list t s ≡ ws
InfluenceRowHolds (chains t ws d sets) = chains_along t (split ws) d ≡ sets

-- the single claim about a list of such rows: each holds
abbrev pub EveryInfluenceRow : List InfluenceRow → Type 0
EveryInfluenceRow [] = Unit {0}
EveryInfluenceRow (r ∷ rs) = InfluenceRowHolds r × EveryInfluenceRow rs

-- Five domains: the link 0, 1, 2, 3 and the drive 4, which has an endpoint. The link has SEND and REMOVE on 1, and SEND, GRANT and
-- REMOVE on 2. 3 has SEND and GRANT on the drive, and SEND on 1.
abbrev pub five_domains : List ℕ
five_domains =
    0x1000_0501
    ∷ map (word 2)
    (0 ∷ 5 ∷ 7 ∷ 0 ∷ 0
    ∷ 0 ∷ 0 ∷ 0 ∷ 0 ∷ 0
    ∷ 0 ∷ 0 ∷ 0 ∷ 0 ∷ 0
    ∷ 0 ∷ 1 ∷ 0 ∷ 0 ∷ 3
    ∷ 0 ∷ 0 ∷ 0 ∷ 0 ∷ 0 ∷ [])
    ++ (0x3000_0001 ∷ 0x4000_0402 ∷ 0x5000_0000 ∷ 0x6000_0000 ∷ empty_slots)

-- what the others do: 3 grants 1 SEND and GRANT on the drive, 1 grants 2 SEND on it, and 2 sends 5 to it
abbrev pub three_calls : List ℕ
three_calls = 0x60C4_0103 ∷ 0x6044_0201 ∷ 0x2080_0000 ∷ 0xF000_0005 ∷ []

-- what the link does first: it grants 1 SEND on 2, and removes all its rights on 1 and on 2
abbrev pub six_calls : List ℕ
six_calls = 0x6002_0101 ∷ 0x7001_0005 ∷ 0x7002_0007 ∷ three_calls

-- the rights words of the drive, which has none
abbrev pub none5 : List ℕ
none5 = 0x2000_0000 ∷ 0x2000_0000 ∷ 0x2000_0000 ∷ 0x2000_0000 ∷ 0x2000_0000 ∷ []

-- the rows
abbrev pub influence_rows : List InfluenceRow
influence_rows =
    -- the link could influence the drive, though no table along the six calls has a chain of rights from it to the drive
    could five_domains 0b11111 (0b00001 ∷ 0b01011 ∷ 0b11111 ∷ 0b01000 ∷ 0b11111 ∷ [])
    ∷ chains five_domains six_calls 4 (0b11000 ∷ 0b11000 ∷ 0b11000 ∷ 0b11000 ∷ 0b11010 ∷ 0b11110 ∷ 0b11110 ∷ [])
    -- where the link doesn't act, 2 can't either; where 3 doesn't act, nobody can, whatever 3 holds
    ∷ could five_domains 0b11110 (0b00001 ∷ 0b01010 ∷ 0b00100 ∷ 0b01000 ∷ 0b11010 ∷ [])
    ∷ could five_domains 0b10111 (0b00001 ∷ 0b00011 ∷ 0b00111 ∷ 0b01000 ∷ 0b10000 ∷ [])
    -- a chain of four, against which nothing goes
    ∷ could four_in_chain 0b1111 (0b0001 ∷ 0b0011 ∷ 0b0111 ∷ 0b1111 ∷ [])
    -- where 1 doesn't act the chain ends at it: 0 could no longer influence 2
    ∷ could four_in_chain 0b1101 (0b0001 ∷ 0b0011 ∷ 0b0100 ∷ 0b1001 ∷ [])
    -- 1 could give 0 and 2 its rights on 2, but where it alone acts they don't use them
    ∷ could by_a_third 0b010 (0b011 ∷ 0b010 ∷ 0b110 ∷ [])
    ∷ could by_a_third 0b111 (0b011 ∷ 0b010 ∷ 0b111 ∷ [])
    ∷ lists by_a_third 0b010 (0x6042_0003 ∷ 0x6042_0203 ∷ 0x5040_0000 ∷ 0x5040_0000 ∷ 0x5040_0000 ∷ [])
    -- REMOVE alone counts, and nobody acts
    ∷ could (bare 2 (0 ∷ 0 ∷ 4 ∷ 0 ∷ [])) 0b11 (0b11 ∷ 0b10 ∷ [])
    ∷ could (bare 2 (0 ∷ 0 ∷ 4 ∷ 0 ∷ [])) 0b00 (0b01 ∷ 0b10 ∷ [])
    ∷ lists (bare 2 (0 ∷ 0 ∷ 4 ∷ 0 ∷ [])) 0b11 (0x5000_0000 ∷ 0x5040_0000 ∷ 0x5000_0000 ∷ 0x5040_0000 ∷ [])
    ∷ []

-- the source sets of the drive along the six calls, what is kept and what the drive sees; and the same without the link's calls
abbrev pub six_call_rows : List PurgeRow
six_call_rows =
    pins five_domains six_calls 4
    (record {
      sets = 0b11111 ∷ 0b11111 ∷ 0b11111 ∷ 0b11110 ∷ 0b10110 ∷ 0b10100 ∷ 0b10000 ∷ [];
      kept =
          one 0x6002_0101
          ∷ one 0x7001_0005
          ∷ one 0x7002_0007
          ∷ one 0x60C4_0103
          ∷ one 0x6044_0201
          ∷ two 0x2080_0000 0xF000_0005
          ∷ [];
      seen =
          record { answers = []; rights = none5; queues = (0, just_one 0xF000_0005) ∷ []; lost = (0, 0x6000_0000) ∷ [] };
    })
    ∷ pins five_domains three_calls 4
    (record {
      sets = 0b11010 ∷ 0b10010 ∷ 0b10000 ∷ 0b10000 ∷ [];
      kept = one 0x60C4_0103 ∷ one 0x6044_0201 ∷ [];
      seen =
          record { answers = []; rights = none5; queues = (0, 0x5000_0000 ∷ empty_slots) ∷ []; lost = (0, 0x6000_0000) ∷ [] };
    })
    ∷ []

-- ---- chains of rights in the tables are not enough

-- those with a chain of rights to d in some table along calls
unfoldable pub chained_along : List ℕ → List Call → ℕ → ℕ
chained_along t [] d = chains_to t d
chained_along t (c ∷ cs) d = bit_or (chains_to t d) (chained_along (step t c) cs d)

-- Noninterference by them is false: a domain can be seen at d though no table along the run has a chain of rights from it to d.
abbrev pub ChainsAreNotEnough : Type 0
ChainsAreNotEnough =
    ((t : List ℕ) (cs : List Call) (d : ℕ)
    → Accepted t
    → d < domains t
    → view d cs (answers t cs) (run t cs)
    ≡ view d (calls_from (chained_along t cs d) cs)
    (answers t (calls_from (chained_along t cs d) cs))
    (run t (calls_from (chained_along t cs d) cs)))
    → ⊥
