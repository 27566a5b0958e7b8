-- A history by its words (document 02 (m)): events one after another, each as the contract of `turns::hand_in` or `turns::turn`
-- promises. Each is lent the table and the state as the event before it left them. A turn is lent arbitrary words for the holders
-- and the answer. What is claimed is claimed of these words: of what the events returned and left.
use Rattle.std.specs.Prelude.{ℕ, ◌+◌, ◌*◌, ◌<◌, ◌≤◌, ◌≡◌, cond, List, [], ◌∷◌, ◌++◌, map, eqb, length, take}
use Rattle.machine.specs.Table.{domains}
use Rattle.machine.specs.Check.{Accepted}
use Rattle.machine.specs.Call.{Call, split}
use Rattle.machine.specs.Machine.{answer}
use Rattle.machine.specs.Run as machine
use Rattle.machine.specs.RunClaims.{Noninterference}
use Rattle.machine.specs.Holders.{holders_of}
use Rattle.turns_theory.specs.Turns.{Turn, begun, most_pending, Turn.serves}
use Rattle.turns_theory.specs.History.{Layer, Event, event_code, after_event, layer_after, turns_of, answers_served, holders_throughout, handed_in_by, served, served_of, holders_each, Event.hand_in, Event.turn}
use Rattle.turns_state.specs.Pending.{pending_in}
use Rattle.turns_state.specs.State.{state_length, beginning, block, turns_in, turn_in}
use Rattle.turns.specs.Promise.{BeginPromise, HandInPromise, TurnPromise, TurnOutcome, words}

-- An event that happened: what it was lent besides the table and the state, what it returned, and the words that it left.
pub data WordEvent : Type 0 where
  hands_in : (d : ℕ) (words : List ℕ) (code : ℕ) (state : List ℕ) → WordEvent
  turns : (holders space : List ℕ) (outcome : TurnOutcome) → WordEvent

-- it is as promised, on the table t and the state ws
abbrev pub AsPromised : List ℕ → List ℕ → WordEvent → Type 0
AsPromised t ws (hands_in d vs code ws') = HandInPromise t ws d vs code ws'
AsPromised t ws (turns holders space o) = TurnPromise (words t ws holders space) o

-- the table and the state that it left
unfoldable pub table_left : List ℕ → WordEvent → List ℕ
table_left t (hands_in d vs code ws') = t
table_left t (turns holders space o) = o.left.table

unfoldable pub state_left : WordEvent → List ℕ
state_left (hands_in d vs code ws') = ws'
state_left (turns holders space o) = o.left.state

-- its code
unfoldable pub code_given : WordEvent → ℕ
code_given (hands_in d vs code ws') = code
code_given (turns holders space o) = o.code

-- its answer's words and its holders, of which there are none where no call was served
unfoldable pub answer_given : WordEvent → List ℕ
answer_given (hands_in d vs code ws') = []
answer_given (turns holders space o) = cond (eqb o.served 0) [] (take 3 o.left.answer)

unfoldable pub holders_given : WordEvent → List (List ℕ)
holders_given (hands_in d vs code ws') = []
holders_given (turns holders space o) = cond (eqb o.served 0) [] (o.left.holders ∷ [])

-- 1 for a turn that wasn't refused
unfoldable pub turn_done : WordEvent → ℕ
turn_done (hands_in d vs code ws') = 0
turn_done (turns holders space o) = cond (eqb o.code 0) 1 0

-- the turn that it was, where it wasn't refused: idle, or the call that the state's words before it say
unfoldable pub turn_given : List ℕ → List ℕ → WordEvent → List Turn
turn_given t ws (hands_in d vs code ws') = []
turn_given t ws (turns holders space o) = cond (eqb o.code 0) (turn_in t ws ∷ []) []

-- the calls of the domain d that it accepted
unfoldable pub calls_accepted : ℕ → WordEvent → List Call
calls_accepted d (hands_in e vs code ws') = cond (eqb code 0) (cond (eqb e d) (split vs) []) []
calls_accepted d (turns holders space o) = []

-- the event of a history that it is
unfoldable pub event_of : WordEvent → Event
event_of (hands_in d vs code ws') = hand_in d vs
event_of (turns holders space o) = turn (length space) (length holders)

-- ---- one after another

-- each is as promised, on what the one before it left
abbrev pub AllAsPromised : List ℕ → List ℕ → List WordEvent → Type 0
AllAsPromised t ws [] = Unit {0}
AllAsPromised t ws (h ∷ hs) = AsPromised t ws h × AllAsPromised (table_left t h) (state_left h) hs

-- the table and the state at the end
unfoldable pub table_at : List ℕ → List WordEvent → List ℕ
table_at t [] = t
table_at t (h ∷ hs) = table_at (table_left t h) hs

unfoldable pub state_at : List ℕ → List WordEvent → List ℕ
state_at ws [] = ws
state_at ws (h ∷ hs) = state_at (state_left h) hs

-- the answers and the holders of the calls served, in order
unfoldable pub answers_given : List WordEvent → List ℕ
answers_given [] = []
answers_given (h ∷ hs) = answer_given h ++ answers_given hs

unfoldable pub all_holders_given : List WordEvent → List (List ℕ)
all_holders_given [] = []
all_holders_given (h ∷ hs) = holders_given h ++ all_holders_given hs

-- how many turns weren't refused, and which they were
unfoldable pub turns_done : List WordEvent → ℕ
turns_done [] = 0
turns_done (h ∷ hs) = turn_done h + turns_done hs

unfoldable pub turns_given : List ℕ → List ℕ → List WordEvent → List Turn
turns_given t ws [] = []
turns_given t ws (h ∷ hs) = turn_given t ws h ++ turns_given (table_left t h) (state_left h) hs

-- the calls of the domain d that were accepted
unfoldable pub all_calls_accepted : ℕ → List WordEvent → List Call
all_calls_accepted d [] = []
all_calls_accepted d (h ∷ hs) = calls_accepted d h ++ all_calls_accepted d hs

-- the codes of a history's events
unfoldable pub event_codes : Layer → List Event → List ℕ
event_codes l [] = []
event_codes l (e ∷ es) = event_code l e ∷ event_codes (after_event l e) es

-- ---- the words are those of a history of the order

-- The words match the history of these events: every code, every turn, every answer, the holders after each call served, the calls
-- accepted, and at the end the table, what is pending and the place of the turn.
pub record MatchesHistory (l : Layer) (ws : List ℕ) (hs : List WordEvent) : Type 0 where
  pub codes : map code_given hs ≡ event_codes l (map event_of hs)
  pub made : turns_given l.table ws hs ≡ turns_of l (map event_of hs)
  pub done : turns_done hs ≡ length (turns_given l.table ws hs)
  pub answers : answers_given hs ≡ answers_served l (map event_of hs)
  pub holders : all_holders_given hs ≡ holders_throughout l (map event_of hs)
  pub accepted : (d : ℕ) → all_calls_accepted d hs ≡ handed_in_by d l (map event_of hs)
  pub table : table_at l.table hs ≡ (layer_after l (map event_of hs)).table
  pub turns : turns_in (state_at ws hs) ≡ (layer_after l (map event_of hs)).turns

-- This holds from any state of the right length, whatever its words represent.
abbrev pub EveryWordHistory : Type 0
EveryWordHistory =
    (t ws : List ℕ) (hs : List WordEvent)
    → length ws ≡ state_length (domains t)
    → AllAsPromised t ws hs
    → MatchesHistory (record { table = t; turns = turns_in ws }) ws hs

-- ---- service

-- One of the events serves the call c of the domain d: it is a turn with fewer than m turns before it that weren't refused; those
-- served of d the calls earlier; the state's words before it say that c is next; it was answered, one call was served, and its
-- answer's three words are the machine's for c on the table before it.
pub record ServedInHistory (t ws : List ℕ) (hs : List WordEvent) (m d : ℕ) (earlier : List Call) (c : Call) : Type 0 where
  pub before : List WordEvent
  pub holders : List ℕ
  pub space : List ℕ
  pub outcome : TurnOutcome
  pub after : List WordEvent
  pub there : hs ≡ before ++ (turns holders space outcome ∷ after)
  pub soon : turns_done before < m
  pub first : served_of d (turns_given t ws before) ≡ earlier
  pub next : turn_in (table_at t before) (state_at ws before) ≡ serves d c
  pub code : outcome.code ≡ 0
  pub one : outcome.served ≡ 1
  pub words : take 3 outcome.left.answer ≡ answer (table_at t before) c

-- The history hs from the accepted table t and the state ws, in which the calls earlier of the domain d are pending, then c and then
-- the calls later.
pub record PendingIn (t ws : List ℕ) (hs : List WordEvent) (d : ℕ) (earlier : List Call) (c : Call) (later : List Call) : Type 0 where
  pub accepted : Accepted t
  pub size : length ws ≡ state_length (domains t)
  pub promised : AllAsPromised t ws hs
  pub below : d < domains t
  pub calls : split (pending_in (block ws d)) ≡ earlier ++ (c ∷ later)

-- Served in time: the oldest pending call of a domain is served within n turns that aren't refused, whatever is handed in.
abbrev pub ServedInTimeByWords : Type 0
ServedInTimeByWords =
    (t ws : List ℕ) (hs : List WordEvent) (d : ℕ) (c : Call) (later : List Call)
    → PendingIn t ws hs d [] c later
    → domains t ≤ turns_done hs
    → ServedInHistory t ws hs (domains t) d [] c

-- Every pending call: the one after k others of its domain is served within (1 + k) · n turns that aren't refused.
abbrev pub EveryCallServedByWords : Type 0
EveryCallServedByWords =
    (t ws : List ℕ) (hs : List WordEvent) (d : ℕ) (earlier : List Call) (c : Call) (later : List Call)
    → PendingIn t ws hs d earlier c later
    → (1 + length earlier) * domains t ≤ turns_done hs
    → ServedInHistory t ws hs ((1 + length earlier) * domains t) d earlier c

-- So each is served within 16 · n turns that aren't refused.
abbrev pub AllServedByWords : Type 0
AllServedByWords =
    (t ws : List ℕ) (hs : List WordEvent) (d : ℕ) (earlier : List Call) (c : Call) (later : List Call)
    → PendingIn t ws hs d earlier c later
    → most_pending * domains t ≤ turns_done hs
    → ServedInHistory t ws hs (most_pending * domains t) d earlier c

-- ---- from the beginning

-- Nothing is pending. The calls served, in order, are one list for the call-by-call machine, which returns their answers, the holders
-- after each and the table. Noninterference (document 01) is claimed of that list. Each domain's calls, those served and then those
-- still pending, are those that were accepted, in that order.
abbrev pub first : List ℕ → Layer
first t = record { table = t; turns = begun }

abbrev pub made : List ℕ → List WordEvent → List Turn
made t hs = turns_given t (beginning (domains t)) hs

pub record AsOneListByWords (t : List ℕ) (hs : List WordEvent) : Type 0 where
  pub matches : MatchesHistory (first t) (beginning (domains t)) hs
  pub answers : answers_given hs ≡ machine.answers t (served (made t hs))
  pub holders : all_holders_given hs ≡ holders_each t (served (made t hs))
  pub table : table_at t hs ≡ machine.run t (served (made t hs))
  pub noninterference : Accepted t → Noninterference t (served (made t hs)) (answers_given hs) (table_at t hs)
  pub order : (d : ℕ) → served_of d (made t hs) ++ split (pending_in (block (state_at (beginning (domains t)) hs) d)) ≡ all_calls_accepted d hs

abbrev pub FromTheBeginning : Type 0
FromTheBeginning = (t : List ℕ) (hs : List WordEvent) → AllAsPromised t (beginning (domains t)) hs → AsOneListByWords t hs

-- ---- the holders, where each event is lent those that the one before it left

-- the holders that an event leaves of those that are kept
unfoldable pub holders_left : List ℕ → WordEvent → List ℕ
holders_left kept (hands_in d vs code ws') = kept
holders_left kept (turns holders space o) = o.left.holders

unfoldable pub holders_at : List ℕ → List WordEvent → List ℕ
holders_at kept [] = kept
holders_at kept (h ∷ hs) = holders_at (holders_left kept h) hs

-- an event is lent the holders that are kept
abbrev pub LentKept : List ℕ → WordEvent → Type 0
LentKept kept (hands_in d vs code ws') = Unit {0}
LentKept kept (turns holders space o) = holders ≡ kept

abbrev pub AllLentKept : List ℕ → List WordEvent → Type 0
AllLentKept kept [] = Unit {0}
AllLentKept kept (h ∷ hs) = LentKept kept h × AllLentKept (holders_left kept h) hs

-- After a beginning that isn't refused, the holders are what the table says, at once and after every event, refused and idle ones
-- too.
abbrev pub HoldersThroughout : Type 0
HoldersThroughout =
    (t ws lent ws' kept : List ℕ) (before after : List WordEvent)
    → BeginPromise t ws lent 0 ws' kept
    → AllAsPromised t ws' (before ++ after)
    → AllLentKept kept (before ++ after)
    → holders_at kept before ≡ holders_of (table_at t before)
