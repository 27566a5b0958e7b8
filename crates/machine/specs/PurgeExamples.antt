-- Rows that pin what no code ever runs: the source set at each call (sources), the kept calls (purge) and the whole view, on
-- small tables. A theorem would stay true of definitions that keep too many calls or that see too little; these rows would
-- not. Inputs and outcomes are literals, worked out by hand.
use Rattle.std.specs.Prelude.{ℕ, ◌<◌, ◌^◌, ◌≡◌, cond, List, [], ◌∷◌, ◌++◌}
use Rattle.machine.specs.Below.{sum_below}
use Rattle.machine.specs.Table.{domains}
use Rattle.machine.specs.Check.{Accepted}
use Rattle.machine.specs.Call.{Call, caller_of, split, Call.one, Call.two}
use Rattle.machine.specs.Machine.{step}
use Rattle.machine.specs.Run.{run, answers}
use Rattle.machine.specs.DomainSet.{member, caller_in}
use Rattle.machine.specs.Purge.{joined_by, sources, purge, View, view}
use Rattle.machine.specs.Examples.{empty_slots}
use Rattle.machine.specs.CodeExamples.{four_domains}

-- a set of domains as a bitmap: bit u is set for each member u
unfoldable pub bits_of : ℕ → List ℕ → ℕ
bits_of n s = sum_below n (λ u. cond (member u s) (2 ^ u) 0)

-- the source set at each call, and past the last
unfoldable pub sets_at : List ℕ → List Call → ℕ → List ℕ
sets_at t [] d = bits_of (domains t) (sources t [] d) ∷ []
sets_at t (c ∷ cs) d = bits_of (domains t) (sources t (c ∷ cs) d) ∷ sets_at (step t c) cs d

-- what the rows are about: the sets, the kept calls, and what d sees of the whole run
pub record Purged : Type 0 where
  pub sets : List ℕ
  pub kept : List Call
  pub seen : View

-- all of that, of the calls cs run from the table t, for the domain d
unfoldable pub purged : List ℕ → List Call → ℕ → Purged
purged t cs d = record { sets = sets_at t cs d; kept = purge t cs d; seen = view d cs (answers t cs) (run t cs) }

-- A row: from a table, a list and a domain to what is pinned.
pub data PurgeRow : Type 0 where
  pins : (table list : List ℕ) (d : ℕ) (outcome : Purged) → PurgeRow

-- a row holds where what it pins is so
abbrev pub PurgeRowHolds : PurgeRow → Type 0
PurgeRowHolds (pins t ws d o) = purged t (split ws) d ≡ o

-- the single claim about a list of such rows: each holds
abbrev pub EveryPurgeRow : List PurgeRow → Type 0
EveryPurgeRow [] = Unit {0}
EveryPurgeRow (r ∷ rs) = PurgeRowHolds r × EveryPurgeRow rs

-- three domains, each with one endpoint; endpoint 0 has capacity 1, the others 2
abbrev pub three_domains : List ℕ → List ℕ
three_domains r =
    0x1000_0303
    ∷ r
    ++ (0x3000_0001 ∷ 0x4000_0001 ∷ 0x5000_0000 ∷ 0x6000_0000 ∷ empty_slots)
    ++ (0x3000_0002 ∷ 0x4000_0102 ∷ 0x5000_0000 ∷ 0x6000_0000 ∷ empty_slots)
    ++ (0x3000_0003 ∷ 0x4000_0202 ∷ 0x5000_0000 ∷ 0x6000_0000 ∷ empty_slots)

-- the rights words of a domain that has no right on 0, 1 or 2
abbrev pub none3 : List ℕ
none3 = 0x2000_0000 ∷ 0x2000_0000 ∷ 0x2000_0000 ∷ []

-- 1 has SEND on 0, and 2 has SEND on 1
abbrev pub chain : List ℕ
chain =
    three_domains
    (none3 ++ (0x2000_0001 ∷ 0x2000_0000 ∷ 0x2000_0000 ∷ []) ++ (0x2000_0000 ∷ 0x2000_0001 ∷ 0x2000_0000 ∷ []))

-- 1 has SEND and GRANT on 0, and SEND on 2
abbrev pub giver : List ℕ
giver = three_domains (none3 ++ (0x2000_0003 ∷ 0x2000_0000 ∷ 0x2000_0001 ∷ []) ++ none3)

-- domain 0's view with nothing in its queue, no right and no lost message
abbrev pub quiet : List ℕ → View
quiet ws = record { answers = ws; rights = none3; queues = (0, 0x5000_0000 ∷ empty_slots) ∷ []; lost = (0, 0x6000_0000) ∷ [] }

-- an endpoint's queue with one message in it, by its slot word: the waiting word and the slots
abbrev pub just_one : ℕ → List ℕ
just_one w =
    0x5000_0001 ∷ w ∷ 0xF000_0000 ∷ 0xF000_0000 ∷ 0xF000_0000 ∷ 0xF000_0000 ∷ 0xF000_0000 ∷ 0xF000_0000 ∷ 0xF000_0000 ∷ []

-- domain 0's view with the message 7 in its queue, no right, no answer and no lost message
abbrev pub got_seven : View
got_seven = record { answers = []; rights = none3; queues = (0, just_one 0xF000_0007) ∷ []; lost = (0, 0x6000_0000) ∷ [] }

-- the rows
abbrev pub purge_rows : List PurgeRow
purge_rows =
    -- a refused call (16) adds its caller 1 to the set, and so the earlier caller 2
    pins (chain) (0x2080_0100 ∷ 0xF000_0009 ∷ 0x3040_0900 ∷ []) 0
    (record {
      sets = 0b111 ∷ 0b011 ∷ 0b001 ∷ [];
      kept = two 0x2080_0100 0xF000_0009 ∷ one 0x3040_0900 ∷ [];
      seen = quiet [];
    })
    -- an unknown kind (9) does the same
    ∷ pins (chain) (0x2080_0100 ∷ 0xF000_0009 ∷ 0x9040_0000 ∷ []) 0
    (record {
      sets = 0b111 ∷ 0b011 ∷ 0b001 ∷ [];
      kept = two 0x2080_0100 0xF000_0009 ∷ one 0x9040_0000 ∷ [];
      seen = quiet [];
    })
    -- a right that is REMOVE alone counts; the call of a known caller with no right is purged
    ∷ pins (three_domains (none3 ++ (0x2000_0004 ∷ 0x2000_0000 ∷ 0x2000_0000 ∷ []) ++ none3)) (0x5040_0000 ∷ 0x5080_0000 ∷ []) 0
    (record {
      sets = 0b011 ∷ 0b001 ∷ 0b001 ∷ [];
      kept = one 0x5040_0000 ∷ [];
      seen = quiet [];
    })
    -- a right given on the way: 1 gives 2 SEND on 0, and then 2 sends
    ∷ pins (giver) (0x6040_0201 ∷ 0x2080_0000 ∷ 0xF000_0007 ∷ []) 0
    (record {
      sets = 0b111 ∷ 0b101 ∷ 0b001 ∷ [];
      kept = one 0x6040_0201 ∷ two 0x2080_0000 0xF000_0007 ∷ [];
      seen = got_seven;
    })
    -- a right removed by its holder's own calls after use: 1 sends, then gives up SEND, then REMOVE
    ∷ pins (three_domains (none3 ++ (0x2000_0005 ∷ 0x2000_0000 ∷ 0x2000_0000 ∷ []) ++ none3)) (0x2040_0000 ∷ 0xF000_0007 ∷ 0x7040_0001 ∷ 0x7040_0004 ∷ []) 0
    (record {
      sets = 0b011 ∷ 0b011 ∷ 0b011 ∷ 0b001 ∷ [];
      kept = two 0x2040_0000 0xF000_0007 ∷ one 0x7040_0001 ∷ one 0x7040_0004 ∷ [];
      seen = got_seven;
    })
    -- a right revoked by another after use: 1 sends, 2 takes SEND back from it, and 1's next send is purged
    ∷ pins (three_domains (none3 ++ (0x2000_0001 ∷ 0x2000_0000 ∷ 0x2000_0000 ∷ []) ++ (0x2000_0008 ∷ 0x2000_0001 ∷ 0x2000_0000 ∷ []))) (0x2040_0000 ∷ 0xF000_0007 ∷ 0x8080_0101 ∷ 0x2040_0000 ∷ 0xF000_0008 ∷ []) 0
    (record {
      sets = 0b111 ∷ 0b101 ∷ 0b001 ∷ 0b001 ∷ [];
      kept = two 0x2040_0000 0xF000_0007 ∷ one 0x8080_0101 ∷ [];
      seen = got_seven;
    })
    -- a revoke of a right of d adds its caller by its right on d, and d sees that the right is cleared
    ∷ pins (three_domains ((0x2000_0000 ∷ 0x2000_0000 ∷ 0x2000_0001 ∷ []) ++ (0x2000_0001 ∷ 0x2000_0000 ∷ 0x2000_0008 ∷ []) ++ none3)) (0x8042_0001 ∷ []) 0
    (record {
      sets = 0b011 ∷ 0b001 ∷ [];
      kept = one 0x8042_0001 ∷ [];
      seen = quiet [];
    })
    -- a call made before its caller was given the right is purged
    ∷ pins (giver) (0x5080_0000 ∷ 0x6040_0201 ∷ []) 0
    (record {
      sets = 0b011 ∷ 0b011 ∷ 0b001 ∷ [];
      kept = one 0x6040_0201 ∷ [];
      seen = quiet [];
    })
    -- a chain of two: 2 sends to 1, which receives and sends on to 0, which receives
    ∷ pins (chain) (0x2080_0100 ∷ 0xF000_0009 ∷ 0x3040_0100 ∷ 0x2040_0000 ∷ 0xF000_0009 ∷ 0x3000_0000 ∷ []) 0
    (record {
      sets = 0b111 ∷ 0b011 ∷ 0b011 ∷ 0b001 ∷ 0b001 ∷ [];
      kept = two 0x2080_0100 0xF000_0009 ∷ one 0x3040_0100 ∷ two 0x2040_0000 0xF000_0009 ∷ one 0x3000_0000 ∷ [];
      seen = quiet (0x3000_0000 ∷ 9 ∷ 0 ∷ []);
    })
    -- a stray whose bits 27–22 name d is no call of d's
    ∷ pins (chain) (0xF040_0003 ∷ 0x5040_0000 ∷ []) 1
    (record {
      sets = 0b010 ∷ 0b010 ∷ 0b010 ∷ [];
      kept = one 0x5040_0000 ∷ [];
      seen =
          record {
            answers = 0x5040_0000 ∷ 1 ∷ 0 ∷ [];
            rights = 0x2000_0001 ∷ 0x2000_0000 ∷ 0x2000_0000 ∷ [];
            queues = (1, 0x5000_0000 ∷ empty_slots) ∷ [];
            lost = (1, 0x6000_0000) ∷ [];
          };
    })
    -- a caller not below n is no known domain, whatever words are where its rights would be
    ∷ pins (chain) (0x50C0_0000 ∷ []) 0
    (record {
      sets = 0b001 ∷ 0b001 ∷ [];
      kept = [];
      seen = quiet [];
    })
    -- a full queue: the second message pushes out the first, which d sees in its queue and in its lost word; and a right given
    -- to d, in its rights
    ∷ pins (three_domains (none3 ++ (0x2000_0001 ∷ 0x2000_0000 ∷ 0x2000_0003 ∷ []) ++ none3)) (0x2040_0000 ∷ 0xF000_0007 ∷ 0x2040_0000 ∷ 0xF000_0008 ∷ 0x6042_0001 ∷ []) 0
    (record {
      sets = 0b011 ∷ 0b011 ∷ 0b011 ∷ 0b001 ∷ [];
      kept = two 0x2040_0000 0xF000_0007 ∷ two 0x2040_0000 0xF000_0008 ∷ one 0x6042_0001 ∷ [];
      seen =
          record {
            answers = [];
            rights = 0x2000_0000 ∷ 0x2000_0000 ∷ 0x2000_0001 ∷ [];
            queues = (0, just_one 0xF000_0008) ∷ [];
            lost = (0, 0x6000_0001) ∷ [];
          };
    })
    -- endpoints whose index isn't their owner's, two of them d's; a call refused by 13 and a kind 0 add their callers; GRANT
    -- alone counts; answers of d that are refused or of an unknown kind are in its view
    ∷ pins four_domains (0x0081_0101 ∷ 0xE0C0_0000 ∷ 0x5041_0000 ∷ 0x9000_0001 ∷ 0x3000_0000 ∷ 0x3000_0200 ∷ []) 0
    (record {
      sets = 0b0111 ∷ 0b0011 ∷ 0b0011 ∷ 0b0001 ∷ 0b0001 ∷ 0b0001 ∷ 0b0001 ∷ [];
      kept = one 0x0081_0101 ∷ one 0x5041_0000 ∷ one 0x9000_0001 ∷ one 0x3000_0000 ∷ one 0x3000_0200 ∷ [];
      seen =
          record {
            answers = 0x9000_000B ∷ 0 ∷ 0 ∷ 0x3000_0012 ∷ 0 ∷ 0 ∷ 0x3000_0000 ∷ 1 ∷ 0 ∷ [];
            rights = 0x2000_0000 ∷ 0x2000_0003 ∷ 0x2000_0001 ∷ 0x2000_0000 ∷ [];
            queues =
                (1, 0x5000_0000 ∷ empty_slots)
                ∷ (2, 0x5000_0001 ∷ 0xF000_0002 ∷ 0xF000_0000 ∷ 0xF000_0000 ∷ 0xF000_0000 ∷ 0xF000_0000 ∷ 0xF000_0000 ∷ 0xF000_0000 ∷ 0xF000_0000 ∷ [])
                ∷ [];
            lost = (1, 0x6000_0000) ∷ (2, 0x6000_0000) ∷ [];
          };
    })
    ∷ []

-- ---- "Working out influence from the last table alone: a right used and then removed is missed" (document 01, 'Shortcuts that
-- break it')

-- the source set at the first of the calls by one table alone, whatever the calls alter
unfoldable pub sources_in : List ℕ → List Call → ℕ → List ℕ
sources_in t [] d = d ∷ []
sources_in t (c ∷ cs) d = joined_by t (caller_of c) (sources_in t cs d)

-- the calls whose caller is in that set
unfoldable pub kept_in : List ℕ → List Call → ℕ → List Call
kept_in t [] d = []
kept_in t (c ∷ cs) d =
    let rest = kept_in t cs d in
    cond (caller_in (caller_of c) (sources_in t (c ∷ cs) d)) (c ∷ rest) rest

-- Noninterference with the source sets by the table at the end is false.
abbrev pub LastTableRuleFails : Type 0
LastTableRuleFails =
    ((t : List ℕ) (cs : List Call) (d : ℕ)
    → Accepted t
    → d < domains t
    → view d cs (answers t cs) (run t cs)
    ≡ view d (kept_in (run t cs) cs d) (answers t (kept_in (run t cs) cs d)) (run t (kept_in (run t cs) cs d)))
    → ⊥

-- 1 has SEND and REMOVE on 0; it sends to 0, and then gives up both
abbrev pub send_and_go : List ℕ
send_and_go = 0x2040_0000 ∷ 0xF000_0007 ∷ 0x7040_0005 ∷ []

abbrev pub may_go : List ℕ
may_go = three_domains (none3 ++ (0x2000_0005 ∷ 0x2000_0000 ∷ 0x2000_0000 ∷ []) ++ none3)
