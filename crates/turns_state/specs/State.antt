-- The words that represent what is pending and the place of the turn (document 02 (m)): 1 + 17 n of them, the place first, then
-- seventeen words for each domain, lowest index first. For arbitrary words: what they represent, and what handing in and a turn
-- leave of them. Where the place isn't below n, no domain is at or after it, so that a turn starts at 0.
use Rattle.std.specs.Prelude.{ℕ, ◌+◌, ◌*◌, Bool, cond, not, ◌&&◌, List, ◌++◌, eqb, length, get_or, take, drop, set, replicate, Option, Some, None}
use Rattle.std.proofs.Math.Option as found_in
use Rattle.machine.specs.Word.{kind, caller}
use Rattle.machine.specs.Table.{domains}
use Rattle.turns_theory.specs.Turns.{Turns, Turn, first_waiting, turn_of, width, Turn.idle, Turn.serves}
use Rattle.turns_state.specs.Pending.{block_length, pending_in, enqueuable, enqueued, dequeuable, dequeued}

-- how many words n domains need, and where those of a domain begin
abbrev pub state_length : ℕ → ℕ
state_length n = 1 + 17 * n

abbrev pub block_at : ℕ → ℕ
block_at d = 1 + 17 * d

-- the state of n domains at the beginning: nothing is pending, and the first turn starts at 0
abbrev pub beginning : ℕ → List ℕ
beginning n = replicate (state_length n) 0

-- a domain's seventeen words, and the state with other words in their place
unfoldable pub block : List ℕ → ℕ → List ℕ
block ws d = take block_length (drop (block_at d) ws)

unfoldable pub set_block : List ℕ → ℕ → List ℕ → List ℕ
set_block ws d b = take (block_at d) ws ++ (b ++ drop block_length (drop (block_at d) ws))

-- what the words represent
unfoldable pub turns_in : List ℕ → Turns
turns_in ws = record { pending = λ d. pending_in (block ws d); place = get_or ws 0 0 }

-- the next turn on the table t
unfoldable pub turn_in : List ℕ → List ℕ → Turn
turn_in t ws = turn_of (domains t) (turns_in ws)

-- ---- the words that are left

-- after the words vs are handed in for the domain d
unfoldable pub state_handed_in : List ℕ → ℕ → List ℕ → List ℕ
state_handed_in ws d vs = set_block ws d (enqueued (block ws d) vs)

-- after the first few words of the domain d are served
unfoldable pub state_served : List ℕ → ℕ → ℕ → List ℕ
state_served ws d few = set (set_block ws d (dequeued (block ws d) few)) 0 (d + 1)

-- after a turn
unfoldable pub state_after : List ℕ → Turn → List ℕ
state_after ws idle = ws
state_after ws (serves d c) = state_served ws d (width c)

-- ---- what the contracts of this crate's functions cite

-- the words vs are appended to the domain's, where there is room
unfoldable pub added_to : List ℕ → ℕ → List ℕ → List ℕ
added_to ws d vs = cond (enqueuable (block ws d) (length vs)) (state_handed_in ws d vs) ws

-- the first word of the oldest call in a domain's words
unfoldable pub first_of_oldest : List ℕ → ℕ
first_of_oldest b = cond (eqb (length b) block_length) (get_or b 1 0) 0

-- the first few of the domain's words are removed, where so many are pending
unfoldable pub removed_from : List ℕ → ℕ → ℕ → List ℕ
removed_from ws d few = cond (dequeuable (block ws d) few) (state_served ws d few) ws

-- w is the first word of a call, no stray, and its caller is d
unfoldable pub is_call_of : ℕ → ℕ → Bool
is_call_of w d = not (eqb (kind w) 15) && eqb (caller w) d

-- the domain that a search gave, as the code returns it
abbrev pub found : found_in.Option ℕ → Option ℕ
found found_in.none = None
found (found_in.some d) = Some d

-- the domain that a turn is to serve
unfoldable pub next_to_serve : ℕ → List ℕ → Option ℕ
next_to_serve n ws = cond (eqb (length ws) (state_length n)) (found (first_waiting n (turns_in ws))) None
