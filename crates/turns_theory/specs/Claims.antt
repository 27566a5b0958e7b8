-- The claims about histories of handing in and turns (document 02 (m)), as closed statements. Each is the type of a theorem in
-- proofs/.
use Rattle.std.specs.Prelude.{ℕ, ◌+◌, ◌*◌, ◌<◌, ◌≤◌, ◌≡◌, Bool, true, false, cond, ◌&&◌, ◌||◌, List, [], ◌∷◌, ◌++◌, eqb, leb, ltb, length, get_or, take, drop}
use Rattle.std.proofs.Math.Option.{some}
use Rattle.machine.specs.Table.{domains}
use Rattle.machine.specs.Check.{table_code, Accepted}
use Rattle.machine.specs.Call.{Call, caller_of, split}
use Rattle.machine.specs.Run as machine
use Rattle.machine.specs.DomainSet.{called_by}
use Rattle.machine.specs.RunClaims.{Noninterference}
use Rattle.turns_theory.specs.Turns.{Turns, Turn, begun, most_pending, is_one_of, hand_in_code, turn_of, turn_code, width, Turn.idle, Turn.serves}
use Rattle.turns_theory.specs.History.{Layer, Event, event_code, next_turn, after_event, layer_after, turns_of, answers_served, holders_throughout, handed_in_by, served, served_of, holders_each, Event.hand_in, Event.turn}

-- Among the turns ts, one of the first m serves the call c of the domain d, and those before it serve of d the calls earlier, which
-- are none where c was the oldest.
pub record ServedWithin (m d : ℕ) (earlier : List Call) (c : Call) (ts : List Turn) : Type 0 where
  pub at : ℕ
  pub soon : at < m
  pub serves : get_or ts at idle ≡ serves d c
  pub first : served_of d (take at ts) ≡ earlier

-- Served in time: the oldest pending call of a domain is served within n turns that aren't refused, whatever is handed in.
abbrev pub ServedInTime : Type 0
ServedInTime =
    (l : Layer) (es : List Event) (d : ℕ) (c : Call) (cs : List Call)
    → Accepted l.table
    → d < domains l.table
    → split (l.turns.pending d) ≡ c ∷ cs
    → domains l.table ≤ length (turns_of l es)
    → ServedWithin (domains l.table) d [] c (turns_of l es)

-- Every pending call: the one after k others of its domain is served within (1 + k) · n turns that aren't refused, whatever is
-- handed in, and those k before it in their order.
abbrev pub EveryCallServedInTime : Type 0
EveryCallServedInTime =
    (l : Layer) (es : List Event) (d : ℕ) (earlier : List Call) (c : Call) (later : List Call)
    → Accepted l.table
    → d < domains l.table
    → split (l.turns.pending d) ≡ earlier ++ (c ∷ later)
    → (1 + length earlier) * domains l.table ≤ length (turns_of l es)
    → ServedWithin ((1 + length earlier) * domains l.table) d earlier c (turns_of l es)

-- So a domain with at most 16 words pending has each of their calls served within 16 · n turns that aren't refused.
abbrev pub AllServedInTime : Type 0
AllServedInTime =
    (l : Layer) (es : List Event) (d : ℕ) (earlier : List Call) (c : Call) (later : List Call)
    → Accepted l.table
    → d < domains l.table
    → length (l.turns.pending d) ≤ most_pending
    → split (l.turns.pending d) ≡ earlier ++ (c ∷ later)
    → most_pending * domains l.table ≤ length (turns_of l es)
    → ServedWithin (most_pending * domains l.table) d earlier c (turns_of l es)

-- The calls served, in order, as one list for the call-by-call machine: its answers, its table at the end, and the holders of its
-- table after each call.
pub record OneList (l : Layer) (es : List Event) : Type 0 where
  pub answers : answers_served l es ≡ machine.answers l.table (served (turns_of l es))
  pub table : (layer_after l es).table ≡ machine.run l.table (served (turns_of l es))
  pub holders : holders_throughout l es ≡ holders_each l.table (served (turns_of l es))

-- This holds of every history, with no limit on its length, from arbitrary words as a table.
abbrev pub AsOneList : Type 0
AsOneList = (l : Layer) (es : List Event) → OneList l es

-- Noninterference (document 01) of every history from an accepted table: for every domain, what it sees of the calls served is what
-- it sees of the machine that is fed only the kept ones, without the purged calls.
abbrev pub EveryHistoryNoninterference : Type 0
EveryHistoryNoninterference =
    (l : Layer) (es : List Event)
    → Accepted l.table
    → Noninterference l.table (served (turns_of l es)) (answers_served l es) (layer_after l es).table

-- In order: the calls of a domain that were served, and then those still pending, are those that were pending, and then those that
-- it handed in. So none is lost, none is served twice, and each domain's calls are served in the order in which they were handed
-- in.
abbrev pub InOrder : Type 0
InOrder =
    (l : Layer) (es : List Event) (d : ℕ)
    → served_of d (turns_of l es) ++ split ((layer_after l es).turns.pending d) ≡ split (l.turns.pending d) ++ handed_in_by d l es

-- A turn is idle exactly where none of the n domains has a call pending.
abbrev pub IdleExactly : Type 0
IdleExactly =
    (n : ℕ) (s : Turns)
    → (turn_of n s ≡ idle → (d : ℕ) → d < n → s.pending d ≡ []) × (((d : ℕ) → d < n → s.pending d ≡ []) → turn_of n s ≡ idle)

-- With none pending a turn is idle and changes nothing, however few words are lent for an answer.
abbrev pub IdleChangesNothing : Type 0
IdleChangesNothing =
    (l : Layer) (space : ℕ)
    → Accepted l.table
    → ((d : ℕ) → d < domains l.table → l.turns.pending d ≡ [])
    → (event_code l (turn space (domains l.table)) ≡ 0) × (after_event l (turn space (domains l.table)) ≡ l)

-- A refused event changes nothing.
abbrev pub RefusedChangesNothing : Type 0
RefusedChangesNothing = (l : Layer) (e : Event) → eqb (event_code l e) 0 ≡ false → after_event l e ≡ l

-- ---- the codes

-- The words are exactly one call, which is no stray, and its caller is d.
pub record OneCallOf (d : ℕ) (ws : List ℕ) : Type 0 where
  pub call : Call
  pub one : split ws ≡ call ∷ []
  pub called_by : caller_of call ≡ some d

-- What each code of handing in is for. The conditions are those of the paper in its order, and one of them holds.
pub record HandInCode (t : List ℕ) (s : Turns) (d : ℕ) (ws : List ℕ) : Type 0 where
  pub bad_table : (Accepted t → ⊥) → hand_in_code t s d ws ≡ table_code t
  pub unknown_domain : Accepted t → domains t ≤ d → hand_in_code t s d ws ≡ 35
  pub not_one_call : Accepted t → d < domains t → (OneCallOf d ws → ⊥) → hand_in_code t s d ws ≡ 36
  pub no_space : Accepted t → d < domains t → OneCallOf d ws → most_pending < length (s.pending d) + length ws → hand_in_code t s d ws ≡ 37
  pub passed : Accepted t → d < domains t → OneCallOf d ws → length (s.pending d) + length ws ≤ most_pending → hand_in_code t s d ws ≡ 0

abbrev pub EveryHandInCode : Type 0
EveryHandInCode = (t : List ℕ) (s : Turns) (d : ℕ) (ws : List ℕ) → HandInCode t s d ws

-- What each code of a turn is for, with so many words lent for its answer and for the holders: likewise.
pub record TurnCode (t : List ℕ) (s : Turns) (space lent : ℕ) : Type 0 where
  pub bad_table : (Accepted t → ⊥) → turn_code t s space lent ≡ table_code t
  pub other_holders : Accepted t → (lent ≡ domains t → ⊥) → turn_code t s space lent ≡ 6
  pub no_space : Accepted t → lent ≡ domains t → (d : ℕ) (c : Call) → turn_of (domains t) s ≡ serves d c → space < 3 → turn_code t s space lent ≡ 6
  pub serving : Accepted t → lent ≡ domains t → (d : ℕ) (c : Call) → turn_of (domains t) s ≡ serves d c → 3 ≤ space → turn_code t s space lent ≡ 0
  pub idling : Accepted t → lent ≡ domains t → turn_of (domains t) s ≡ idle → turn_code t s space lent ≡ 0

abbrev pub EveryTurnCode : Type 0
EveryTurnCode = (t : List ℕ) (s : Turns) (space lent : ℕ) → TurnCode t s space lent

-- ---- the order of turns

-- searched from a place upward and then from 0, the index e comes before d
unfoldable pub comes_before : ℕ → ℕ → ℕ → Bool
comes_before place e d = cond (leb place d) (leb place e && ltb e d) (leb place e || ltb e d)

-- d is the first of the n domains that has a call pending, searched from the place of the turn on, and c is the oldest of its calls.
pub record NextServed (n : ℕ) (s : Turns) (d : ℕ) (c : Call) : Type 0 where
  pub below : d < n
  pub oldest : split (s.pending d) ≡ c ∷ split (drop (width c) (s.pending d))
  pub first : (e : ℕ) → e < n → comes_before s.place e d ≡ true → s.pending e ≡ []

-- A turn serves a call of a domain exactly where that domain is the next to be served and the call is its oldest.
abbrev pub ServesFirst : Type 0
ServesFirst =
    (n : ℕ) (s : Turns) (d : ℕ) (c : Call)
    → (turn_of n s ≡ serves d c → NextServed n s d c) × (NextServed n s d c → turn_of n s ≡ serves d c)

-- where the turn after others starts: after the domain served last, or at the place before them where none served a call
unfoldable pub place_after : ℕ → List Turn → ℕ
place_after place [] = place
place_after place (idle ∷ ts) = place_after place ts
place_after place (serves d c ∷ ts) = place_after (d + 1) ts

-- A turn starts after the domain served last, and the first turn of all starts at 0.
abbrev pub StartsAfterLast : Type 0
StartsAfterLast =
    (begun.place ≡ 0) × ((l : Layer) (es : List Event) → (layer_after l es).turns.place ≡ place_after l.turns.place (turns_of l es))

-- Words of served calls are used again: once a call of a domain is served, the domain can hand in one that is no longer, however
-- many of its 16 words were pending.
abbrev pub ServedWordsUsedAgain : Type 0
ServedWordsUsedAgain =
    (l : Layer) (space lent d : ℕ) (c : Call) (ws : List ℕ)
    → event_code l (turn space lent) ≡ 0
    → next_turn l ≡ serves d c
    → length (l.turns.pending d) ≤ most_pending
    → is_one_of d (split ws) ≡ true
    → length ws ≤ width c
    → event_code (after_event l (turn space lent)) (hand_in d ws) ≡ 0

-- ---- what a history from the beginning can make

-- each of the calls has the caller d; none is a stray
unfoldable pub all_of : ℕ → List Call → Bool
all_of d [] = true
all_of d (c ∷ cs) = called_by d (caller_of c) && all_of d cs

-- Among n domains: each has at most 16 words pending, which are calls of its own, no index from n on has any, and the place is a
-- domain or n.
pub record ProperHistory (n : ℕ) (s : Turns) : Type 0 where
  pub own : (d : ℕ) → d < n → all_of d (split (s.pending d)) ≡ true
  pub few : (d : ℕ) → d < n → length (s.pending d) ≤ most_pending
  pub others : (d : ℕ) → n ≤ d → s.pending d ≡ []
  pub place : s.place ≤ n

abbrev pub BeginsProper : Type 0
BeginsProper = (n : ℕ) → ProperHistory n begun

abbrev pub StaysProper : Type 0
StaysProper =
    (l : Layer) (es : List Event)
    → Accepted l.table
    → ProperHistory (domains l.table) l.turns
    → ProperHistory (domains l.table) (layer_after l es).turns

-- every turn that serves a domain serves a call of that domain, which is below n
unfoldable pub serves_own : ℕ → List Turn → Bool
serves_own n [] = true
serves_own n (idle ∷ ts) = serves_own n ts
serves_own n (serves d c ∷ ts) = ltb d n && called_by d (caller_of c) && serves_own n ts

abbrev pub ServesOwn : Type 0
ServesOwn =
    (l : Layer) (es : List Event)
    → Accepted l.table
    → ProperHistory (domains l.table) l.turns
    → serves_own (domains l.table) (turns_of l es) ≡ true
