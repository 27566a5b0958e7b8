-- Rows that pin handing in and turns (document 02 (m)) on a table of four domains: a history served by turns, and each refusal
-- where it applies. Inputs and outcomes are literals, worked out by hand.
use Rattle.std.specs.Prelude.{ℕ, ◌≡◌, List, [], ◌∷◌, ◌++◌, set, replicate}
use Rattle.machine.specs.Call.{Call.one, Call.two}
use Rattle.machine.specs.Examples.{empty_slots}
use Rattle.turns_theory.specs.Turns.{Turns, Turn, begun, replaced, hand_in_code, turn_code, Turn.idle, Turn.serves}
use Rattle.turns_theory.specs.History.{Layer, Event, layer_after, turns_of, answers_served, holders_throughout, Event.hand_in, Event.turn}

-- what the rows show of a history: its turns that weren't refused, the answers and the holders of each call served, and at its end
-- the table, the pending words of the domains 0 to 3 and the place of the turn
pub record Shown : Type 0 where
  pub turns : List Turn
  pub answers : List ℕ
  pub holders : List (List ℕ)
  pub table : List ℕ
  pub pending : List (List ℕ)
  pub place : ℕ

unfoldable pub shown : Layer → List Event → Shown
shown l es =
    let end = layer_after l es in
    let f = end.turns.pending in
    record {
      turns = turns_of l es;
      answers = answers_served l es;
      holders = holders_throughout l es;
      table = end.table;
      pending = f 0 ∷ f 1 ∷ f 2 ∷ f 3 ∷ [];
      place = end.turns.place;
    }

-- A row: a history from the beginning; the code of handing in for a domain, with so many of its words pending; or the code of a
-- turn, with so many words pending of the domain 1.
pub data TurnRow : Type 0 where
  shows : (table : List ℕ) (events : List Event) (outcome : Shown) → TurnRow
  hands_in : (table : List ℕ) (count d : ℕ) (words : List ℕ) (code : ℕ) → TurnRow
  turns_with : (table : List ℕ) (count space lent code : ℕ) → TurnRow

-- so many words pending of the domain d, and none of any other
abbrev pub pending_of : ℕ → ℕ → Turns
pending_of d count = record { pending = replaced begun.pending d (replicate count 0x5000_0000); place = 0 }

-- what a row says
abbrev pub TurnRowHolds : TurnRow → Type 0
TurnRowHolds (shows t es o) = shown (record { table = t; turns = begun }) es ≡ o
TurnRowHolds (hands_in t count d ws n) = hand_in_code t (pending_of d count) d ws ≡ n
TurnRowHolds (turns_with t count space lent n) = turn_code t (pending_of 1 count) space lent ≡ n

-- the single claim about a list of such rows: each holds
abbrev pub EveryTurnRow : List TurnRow → Type 0
EveryTurnRow [] = Unit {0}
EveryTurnRow (r ∷ rs) = TurnRowHolds r × EveryTurnRow rs

-- Four domains: 0 has SEND on 2, and 3 has SEND on 1 and SEND and GRANT on 2. The one endpoint is 2's.
abbrev pub four : List ℕ
four =
    0x1000_0401
    ∷ 0x2000_0000
    ∷ 0x2000_0000
    ∷ 0x2000_0001
    ∷ 0x2000_0000
    ∷ replicate 8 0x2000_0000
    ++ (0x2000_0000 ∷ 0x2000_0001 ∷ 0x2000_0003 ∷ 0x2000_0000 ∷ [])
    ++ (0x3000_0011 ∷ 0x4000_0202 ∷ 0x5000_0000 ∷ 0x6000_0000 ∷ empty_slots)

-- 2 and 3 hand in before 0 does. Nothing was pending at the first turn, which is idle with no word for an answer, so the next
-- still starts at 0. A turn with a word too few for the holders or for the answer of a call serves nobody. 0 is served again, and
-- what is handed in meanwhile waits for its turn.
abbrev pub events : List Event
events =
    turn 0 4
    ∷ hand_in 2 (0x3080_0000 ∷ [])
    ∷ hand_in 3 (0x60C2_0101 ∷ [])
    ∷ hand_in 0 (0x2000_0000 ∷ 0xF000_0007 ∷ [])
    ∷ hand_in 2 (0x3080_0000 ∷ [])
    ∷ turn 3 4
    ∷ turn 3 3
    ∷ turn 2 4
    ∷ turn 3 4
    ∷ hand_in 0 (0x2000_0000 ∷ [])
    ∷ hand_in 1 (0x5040_0000 ∷ [])
    ∷ hand_in 1 (0x3080_0000 ∷ [])
    ∷ turn 4 4
    ∷ turn 3 4
    ∷ turn 3 4
    ∷ hand_in 0 (0x9000_0000 ∷ [])
    ∷ turn 3 4
    ∷ turn 3 4
    ∷ turn 3 4
    ∷ hand_in 1 (0x2040_0000 ∷ 0xF000_0001 ∷ [])
    ∷ hand_in 1 (0x5040_0000 ∷ [])
    ∷ []

abbrev pub outcome : Shown
outcome =
    record {
      turns =
          idle
          ∷ serves 0 (two 0x2000_0000 0xF000_0007)
          ∷ serves 2 (one 0x3080_0000)
          ∷ serves 3 (one 0x60C2_0101)
          ∷ serves 0 (one 0x2000_0000)
          ∷ serves 1 (one 0x5040_0000)
          ∷ serves 2 (one 0x3080_0000)
          ∷ serves 0 (one 0x9000_0000)
          ∷ idle
          ∷ [];
      answers =
          (0x2000_0000 ∷ 0 ∷ 0 ∷ [])
          ++ (0x3080_0000 ∷ 7 ∷ 0 ∷ [])
          ++ (0x60C0_0000 ∷ 0 ∷ 0 ∷ [])
          ++ (0x2000_000E ∷ 0 ∷ 0 ∷ [])
          ++ (0x5040_0000 ∷ 0x0000_0100 ∷ 0 ∷ [])
          ++ (0x3080_0013 ∷ 0 ∷ 0 ∷ [])
          ++ (0x9000_000B ∷ 0 ∷ 0 ∷ []);
      holders = replicate 2 (0 ∷ 8 ∷ 9 ∷ 0 ∷ []) ++ replicate 5 (0 ∷ 8 ∷ 11 ∷ 0 ∷ []);
      table = set four 7 0x2000_0001;
      pending = [] ∷ (0x2040_0000 ∷ 0xF000_0001 ∷ 0x5040_0000 ∷ []) ∷ [] ∷ [] ∷ [];
      place = 1;
    }

abbrev pub turn_rows : List TurnRow
turn_rows =
    shows four events outcome
    -- 2 to 5 are checked first, also for a domain that isn't below n
    ∷ hands_in [] 0 0 (0x5000_0000 ∷ []) 2
    ∷ hands_in (0 ∷ four) 0 9 [] 2
    ∷ hands_in (four ++ (0 ∷ [])) 0 9 [] 3
    ∷ hands_in (set four 1 0) 0 9 [] 4
    ∷ hands_in (set four 20 0) 0 9 [] 5
    -- 35 for a domain from n on, before the words are checked
    ∷ hands_in four 0 3 (0x50C0_0000 ∷ []) 0
    ∷ hands_in four 0 4 (0x5100_0000 ∷ []) 35
    ∷ hands_in four 0 4 [] 35
    -- 36: no word, a stray, two calls, a word after a call of one word and of two, another's call; also where there is no room
    ∷ hands_in four 0 1 [] 36
    ∷ hands_in four 0 1 (0xF040_0000 ∷ []) 36
    ∷ hands_in four 0 1 (0x5040_0000 ∷ 0x5040_0000 ∷ []) 36
    ∷ hands_in four 0 1 (0x5040_0000 ∷ 0xF000_0000 ∷ []) 36
    ∷ hands_in four 0 1 (0x2040_0000 ∷ 0xF000_0000 ∷ 0xF000_0000 ∷ []) 36
    ∷ hands_in four 0 1 (0x5080_0000 ∷ []) 36
    ∷ hands_in four 16 1 (0x2080_0000 ∷ 0xF000_0000 ∷ []) 36
    -- a look up and a send without their second words and an unknown kind are accepted
    ∷ hands_in four 0 1 (0x1040_0000 ∷ []) 0
    ∷ hands_in four 0 1 (0x2040_0000 ∷ []) 0
    ∷ hands_in four 0 1 (0x0040_0000 ∷ []) 0
    -- 37 above 16 words
    ∷ hands_in four 15 1 (0x5040_0000 ∷ []) 0
    ∷ hands_in four 16 1 (0x5040_0000 ∷ []) 37
    ∷ hands_in four 14 1 (0x2040_0000 ∷ 0xF000_0000 ∷ []) 0
    ∷ hands_in four 15 1 (0x2040_0000 ∷ 0xF000_0000 ∷ []) 37
    -- a turn: 2 to 5 before 6
    ∷ turns_with [] 1 0 0 2
    ∷ turns_with (four ++ (0 ∷ [])) 1 0 0 3
    ∷ turns_with (set four 1 0) 1 2 4 4
    ∷ turns_with (set four 20 0) 1 3 5 5
    -- 6 for the holders, idle or not
    ∷ turns_with four 0 3 3 6
    ∷ turns_with four 1 3 5 6
    -- 6 for the answer's space where a call is pending; with none pending a turn is idle
    ∷ turns_with four 1 2 4 6
    ∷ turns_with four 0 2 4 0
    ∷ turns_with four 0 0 4 0
    ∷ turns_with four 1 3 4 0
    ∷ turns_with four 1 4 4 0
    ∷ []
