-- Rows that pin the isolation rule between two lines (document 02 (g)) on small tables: a pair that differs and meets its
-- condition, and pairs that don't, whose views or source sets differ. Inputs and outcomes are literals, worked out by hand.
use Rattle.std.specs.Prelude.{ℕ, ◌<◌, ◌≡◌, true, List, [], ◌∷◌, ◌++◌}
use Rattle.machine.specs.Table.{domains}
use Rattle.machine.specs.Call.{Call, split}
use Rattle.machine.specs.Run.{run, answers}
use Rattle.machine.specs.DomainSet.{member}
use Rattle.machine.specs.Purge.{sources, View, view}
use Rattle.machine.specs.SameParts.{SamePart, Agree}
use Rattle.machine.specs.Examples.{empty_slots}
use Rattle.machine.specs.PurgeExamples.{bits_of, none3, quiet, got_seven}
use Rattle.isolation_theory.specs.TwoLines.{TwoLines, AgreeOnSources}

-- what the rows state: the source set of d over all calls, as bits, and what d sees of the run
pub record Seen : Type 0 where
  pub set : ℕ
  pub view : View

-- both, of the calls cs run from the table t
unfoldable pub seen : ℕ → List Call → List ℕ → Seen
seen d cs t = record { set = bits_of (domains t) (sources t cs d); view = view d cs (answers t cs) (run t cs) }

-- A row: from two tables, a list and a domain to what holds on the first and on the second.
pub data LineRow : Type 0 where
  pair : (s t list : List ℕ) (d : ℕ) (on_first on_second : Seen) → LineRow

-- a row holds where both are as it says
abbrev pub LineRowHolds : LineRow → Type 0
LineRowHolds (pair s t ws d o p) = (seen d (split ws) s ≡ o) × (seen d (split ws) t ≡ p)

-- the single claim about a list of such rows: each holds
abbrev pub EveryLineRow : List LineRow → Type 0
EveryLineRow [] = Unit {0}
EveryLineRow (r ∷ rs) = LineRowHolds r × EveryLineRow rs

-- three domains with an endpoint each: the rights words of domain 1, the rights words of domain 2, and the waiting, lost and
-- message words of domain 2's endpoint; domain 0 has no right, and the other two queues are empty
abbrev pub line : List ℕ → List ℕ → List ℕ → List ℕ
line one two queue =
    0x1000_0303
    ∷ none3
    ++ one
    ++ two
    ++ (0x3000_0001 ∷ 0x4000_0001 ∷ 0x5000_0000 ∷ 0x6000_0000 ∷ empty_slots)
    ++ (0x3000_0002 ∷ 0x4000_0102 ∷ 0x5000_0000 ∷ 0x6000_0000 ∷ empty_slots)
    ++ (0x3000_0003 ∷ 0x4000_0202 ∷ queue)

-- SEND on domain 0 alone
abbrev pub send_on0 : List ℕ
send_on0 = 0x2000_0001 ∷ 0x2000_0000 ∷ 0x2000_0000 ∷ []

-- SEND on domain 2 alone
abbrev pub send_on2 : List ℕ
send_on2 = 0x2000_0000 ∷ 0x2000_0000 ∷ 0x2000_0001 ∷ []

-- a queue with nothing in it, and one with the message 9 that has lost four
abbrev pub nothing_waits : List ℕ
nothing_waits = 0x5000_0000 ∷ 0x6000_0000 ∷ empty_slots

abbrev pub nine_waits : List ℕ
nine_waits =
    0x5000_0001 ∷ 0x6000_0004 ∷ 0xF000_0009 ∷ 0xF000_0000 ∷ 0xF000_0000 ∷ 0xF000_0000 ∷ 0xF000_0000 ∷ 0xF000_0000 ∷ 0xF000_0000 ∷ 0xF000_0000 ∷ []

-- Two lines that differ at domain 2, which has no right on another: its rights on itself, its queue and its lost count. On both
-- domain 1 has SEND on domain 0.
abbrev pub bare_line : List ℕ
bare_line = line send_on0 none3 nothing_waits

abbrev pub busy_line : List ℕ
busy_line = line send_on0 send_on2 nine_waits

-- 1 sends 7 to 0, 2 receives and asks for its rights, 0 receives
abbrev pub shared_list : List ℕ
shared_list = 0x2040_0000 ∷ 0xF000_0007 ∷ 0x3080_0200 ∷ 0x5080_0000 ∷ 0x3000_0000 ∷ []

-- Two lines whose parts of domain 0 are the same, but domain 1 has SEND on it on the second alone.
abbrev pub closed_line : List ℕ
closed_line = line none3 none3 nothing_waits

abbrev pub open_line : List ℕ
open_line = line send_on0 none3 nothing_waits

-- 1 sends 7 to 0
abbrev pub one_send : List ℕ
one_send = 0x2040_0000 ∷ 0xF000_0007 ∷ []

-- Two lines whose parts of domain 0 and rights on it are the same, but domain 1 has SEND and GRANT on domain 2 on the second
-- alone; on domain 0 it has SEND and REMOVE on both.
abbrev pub poor_line : List ℕ
poor_line = line (0x2000_0005 ∷ 0x2000_0000 ∷ 0x2000_0000 ∷ []) none3 nothing_waits

abbrev pub rich_line : List ℕ
rich_line = line (0x2000_0005 ∷ 0x2000_0000 ∷ 0x2000_0003 ∷ []) none3 nothing_waits

-- 1 gives 0 SEND on 2, and then gives up its own rights on 0
abbrev pub give_and_go : List ℕ
give_and_go = 0x6042_0001 ∷ 0x7040_0001 ∷ 0x7040_0004 ∷ []

-- the rows
abbrev pub line_rows : List LineRow
line_rows =
    -- the lines differ, and domain 0 sees the same of both
    pair bare_line busy_line shared_list 0
    (record { set = 0b011; view = quiet (0x3000_0000 ∷ 7 ∷ 0 ∷ []) })
    (record { set = 0b011; view = quiet (0x3000_0000 ∷ 7 ∷ 0 ∷ []) })
    -- domain 2 doesn't
    ∷ pair bare_line busy_line shared_list 2
    (record {
      set = 0b100;
      view =
          record {
            answers = 0x3080_0013 ∷ 0 ∷ 0 ∷ 0x5080_0000 ∷ 0 ∷ 0 ∷ [];
            rights = none3;
            queues = (2, 0x5000_0000 ∷ empty_slots) ∷ [];
            lost = (2, 0x6000_0000) ∷ [];
          };
    })
    (record {
      set = 0b100;
      view =
          record {
            answers = 0x3080_0000 ∷ 9 ∷ 4 ∷ 0x5080_0000 ∷ 0x100 ∷ 0 ∷ [];
            rights = send_on2;
            queues = (2, 0x5000_0000 ∷ empty_slots) ∷ [];
            lost = (2, 0x6000_0004) ∷ [];
          };
    })
    -- the rights held on domain 0 differ: so do its source set and what it sees
    ∷ pair closed_line open_line one_send 0 (record { set = 0b001; view = quiet [] }) (record { set = 0b011; view = got_seven })
    -- where domain 1 only asks for its rights domain 0 sees the same, but the source sets differ
    ∷ pair closed_line open_line (0x5040_0000 ∷ []) 0 (record { set = 0b001; view = quiet [] }) (record { set = 0b011; view = quiet [] })
    -- what domain 0 has is the same, but not what the member 1 has: it gives a right away that it has on the second line alone
    ∷ pair poor_line rich_line give_and_go 0 (record { set = 0b011; view = quiet [] })
    (record {
      set = 0b011;
      view = record { answers = []; rights = send_on2; queues = (0, 0x5000_0000 ∷ empty_slots) ∷ []; lost = (0, 0x6000_0000) ∷ [] };
    })
    ∷ []

-- The condition is met for domain 0 by two lines, of which the first rows say what differs.
abbrev pub ConditionMet : Type 0
ConditionMet = TwoLines bare_line busy_line × AgreeOnSources 0 (split shared_list) bare_line busy_line

-- The rule with another condition on d, the calls and the two tables than AgreeOnSources.
abbrev pub RuleWith : (ℕ → List Call → List ℕ → List ℕ → Type 0) → Type 0
RuleWith condition =
    (s t : List ℕ) (cs : List Call) (d : ℕ)
    → TwoLines s t
    → d < domains s
    → condition d cs s t
    → view d cs (answers s cs) (run s cs) ≡ view d cs (answers t cs) (run t cs)

-- Equal parts of each member are not enough: without the rights held on a member the rule is false.
abbrev pub PartsAreNotEnough : Type 0
PartsAreNotEnough = RuleWith (λ d cs s t. (v : ℕ) → member v (sources s cs d) ≡ true → SamePart v s t) → ⊥

-- Nor is it enough to agree on d alone,
abbrev pub OwnPartIsNotEnough : Type 0
OwnPartIsNotEnough = RuleWith (λ d cs s t. Agree d s t) → ⊥

-- nor on the source set of the calls run from the table that they left.
abbrev pub LastTableIsNotEnough : Type 0
LastTableIsNotEnough = RuleWith (λ d cs s t. (v : ℕ) → member v (sources (run s cs) cs d) ≡ true → Agree v s t) → ⊥
