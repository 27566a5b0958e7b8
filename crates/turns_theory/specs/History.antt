-- A history (document 02 (m)): events of handing in and of turns, one after another, from a table and what is pending. Only turns
-- change the table, and only these events change what is pending and the place of the turn.
use Rattle.std.specs.Prelude.{ℕ, cond, List, [], ◌∷◌, ◌++◌, eqb}
use Rattle.machine.specs.Table.{domains}
use Rattle.machine.specs.Call.{Call, split}
use Rattle.machine.specs.Machine.{step}
use Rattle.machine.specs.Holders.{holders_of}
use Rattle.turns_theory.specs.Turns.{Turns, Turn, hand_in_code, handed_in, turn_code, turn_of, after_turn, table_after, answer_of, holders_after_turn}
use Rattle.turns_theory.specs.Turns.{Turn.idle, Turn.serves}

-- The table and what is kept between turns.
pub record Layer : Type 0 where
  pub table : List ℕ
  pub turns : Turns

-- An event: the domain d hands in words, or a turn is requested with so many words lent for the answer and for the holders.
pub data Event : Type 0 where
  hand_in : (d : ℕ) (ws : List ℕ) → Event
  turn : (space lent : ℕ) → Event

-- its code: 0, or the code that refuses it
unfoldable pub event_code : Layer → Event → ℕ
event_code l (hand_in d ws) = hand_in_code l.table l.turns d ws
event_code l (turn space lent) = turn_code l.table l.turns space lent

-- the next turn
unfoldable pub next_turn : Layer → Turn
next_turn l = turn_of (domains l.table) l.turns

-- what an event leaves where it isn't refused
unfoldable pub done : Layer → Event → Layer
done l (hand_in d ws) = record { table = l.table; turns = handed_in l.turns d ws }
done l (turn space lent) = record { table = table_after l.table (next_turn l); turns = after_turn l.turns (next_turn l) }

-- what an event leaves: one that is refused changes nothing
unfoldable pub after_event : Layer → Event → Layer
after_event l e = cond (eqb (event_code l e) 0) (done l e) l

-- what a whole history leaves
unfoldable pub layer_after : Layer → List Event → Layer
layer_after l [] = l
layer_after l (e ∷ es) = layer_after (after_event l e) es

-- ---- what is seen of a history

-- what f yields of each event that isn't refused, in order
unfoldable pub along_with : {A : Type 0} → (Layer → Event → List A) → Layer → List Event → List A
along_with f l [] = []
along_with f l (e ∷ es) = cond (eqb (event_code l e) 0) (f l e) [] ++ along_with f (after_event l e) es

-- the turns that weren't refused
unfoldable pub turn_at : Layer → Event → List Turn
turn_at l (hand_in d ws) = []
turn_at l (turn space lent) = next_turn l ∷ []

abbrev pub turns_of : Layer → List Event → List Turn
turns_of = along_with turn_at

-- the answer words, three for each call served
unfoldable pub answer_at : Layer → Event → List ℕ
answer_at l (hand_in d ws) = []
answer_at l (turn space lent) = answer_of l.table (next_turn l)

abbrev pub answers_served : Layer → List Event → List ℕ
answers_served = along_with answer_at

-- the holders after each call served
unfoldable pub holders_of_turn : List ℕ → Turn → List (List ℕ)
holders_of_turn t idle = []
holders_of_turn t (serves d c) = holders_after_turn t (serves d c) [] ∷ []

unfoldable pub holders_at : Layer → Event → List (List ℕ)
holders_at l (hand_in d ws) = []
holders_at l (turn space lent) = holders_of_turn l.table (next_turn l)

abbrev pub holders_throughout : Layer → List Event → List (List ℕ)
holders_throughout = along_with holders_at

-- the calls that the domain d handed in
unfoldable pub calls_at : ℕ → Layer → Event → List Call
calls_at d l (hand_in e ws) = cond (eqb e d) (split ws) []
calls_at d l (turn space lent) = []

abbrev pub handed_in_by : ℕ → Layer → List Event → List Call
handed_in_by d = along_with (calls_at d)

-- the calls that turns served, all of them and those of the domain d
unfoldable pub served : List Turn → List Call
served [] = []
served (idle ∷ ts) = served ts
served (serves d c ∷ ts) = c ∷ served ts

unfoldable pub served_of : ℕ → List Turn → List Call
served_of d [] = []
served_of d (idle ∷ ts) = served_of d ts
served_of d (serves e c ∷ ts) = let rest = served_of d ts in cond (eqb e d) (c ∷ rest) rest

-- the holders of the table after each of the calls cs, which the machine is fed one after another
unfoldable pub holders_each : List ℕ → List Call → List (List ℕ)
holders_each t [] = []
holders_each t (c ∷ cs) = holders_of (step t c) ∷ holders_each (step t c) cs
