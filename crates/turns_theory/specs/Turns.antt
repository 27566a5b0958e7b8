-- Calls that domains hand in one by one and that are served by turns (document 02 (m)): what is pending, the outcomes of handing in
-- and of a turn, and what each leaves. Nothing here depends on the words that represent it.
use Rattle.std.specs.Prelude.{ℕ, ◌+◌, Bool, false, cond, not, ◌&&◌, List, [], ◌∷◌, ◌++◌, eqb, leb, ltb, length, drop}
use Rattle.std.proofs.Math.Option.{Option, none, some}
use Rattle.machine.specs.Below.{first_below}
use Rattle.machine.specs.Table.{domains}
use Rattle.machine.specs.Check.{table_code}
use Rattle.machine.specs.Call.{Call, caller_of, split, Call.one, Call.two}
use Rattle.machine.specs.Machine.{step, answer}
use Rattle.machine.specs.DomainSet.{called_by}
use Rattle.machine.specs.Holders.{holders_of}

-- What is kept between turns: each domain's pending words, oldest first, and the place of the turn, which is the domain at which
-- the next turn begins its search.
pub record Turns : Type 0 where
  pub pending : ℕ → List ℕ
  pub place : ℕ

-- the beginning: nothing is pending, and the first turn starts at 0
unfoldable pub begun : Turns
begun = record { pending = λ d. []; place = 0 }

-- every domain's words as in f, except those of d, which are ws
unfoldable pub replaced : (ℕ → List ℕ) → ℕ → List ℕ → ℕ → List ℕ
replaced f d ws e = cond (eqb d e) ws (f e)

-- ---- handing in

-- the most words that can be pending of a domain
abbrev pub most_pending : ℕ
most_pending = 16

-- the calls are exactly one, which is no stray and has the caller d
unfoldable pub is_one_of : ℕ → List Call → Bool
is_one_of d [] = false
is_one_of d (c ∷ []) = called_by d (caller_of c)
is_one_of d (c ∷ next ∷ cs) = false

-- the code of handing in the words ws for the domain d: the table's 2 to 5, then 35 where the domain isn't below n, 36 where the
-- words aren't exactly one call of that domain, and 37 where its pending words would exceed 16; 0 where nothing refuses them
unfoldable pub hand_in_code : List ℕ → Turns → ℕ → List ℕ → ℕ
hand_in_code t s d ws =
    cond (not (eqb (table_code t) 0)) (table_code t)
    (cond (not (ltb d (domains t))) 35
    (cond (not (is_one_of d (split ws))) 36 (cond (ltb most_pending (length (s.pending d) + length ws)) 37 0)))

-- the words ws are appended to the pending words of the domain d
unfoldable pub handed_in : Turns → ℕ → List ℕ → Turns
handed_in s d ws = record { pending = replaced s.pending d (s.pending d ++ ws); place = s.place }

-- ---- a turn

-- the domain d has a call pending
unfoldable pub waits : Turns → ℕ → Bool
waits s d = not (eqb (length (s.pending d)) 0)

-- the first of the n domains, from a place on, that has a call pending
unfoldable pub first_pending_from : ℕ → Turns → ℕ → Option ℕ
first_pending_from n s place = first_below n (λ d. leb place d && waits s d)

-- the first of two, or the second where the first is none
unfoldable pub or_else : Option ℕ → Option ℕ → Option ℕ
or_else none next = next
or_else (some d) next = some d

-- the first domain that has a call pending, from the place of the turn upward and then from 0
unfoldable pub first_waiting : ℕ → Turns → Option ℕ
first_waiting n s = or_else (first_pending_from n s s.place) (first_pending_from n s 0)

-- What a turn that isn't refused does: it is idle where nothing was pending, or it serves the call c of the domain d.
pub data Turn : Type 0 where
  idle : Turn
  serves : (d : ℕ) (c : Call) → Turn

-- the turn that serves the oldest of the domain's pending calls, or is idle where there is none
unfoldable pub serves_oldest : ℕ → List Call → Turn
serves_oldest d [] = idle
serves_oldest d (c ∷ cs) = serves d c

-- the turn that serves the domain that was found, or is idle where none was
unfoldable pub serves_at : Turns → Option ℕ → Turn
serves_at s none = idle
serves_at s (some d) = serves_oldest d (split (s.pending d))

-- the turn among n domains
unfoldable pub turn_of : ℕ → Turns → Turn
turn_of n s = serves_at s (first_waiting n s)

-- how many words a call has
abbrev pub width : Call → ℕ
width (one w) = 1
width (two w v) = 2

-- what is kept after a turn: the words of the call served are gone, and the next turn starts after its domain
unfoldable pub after_turn : Turns → Turn → Turns
after_turn s idle = s
after_turn s (serves d c) =
    record { pending = replaced s.pending d (drop (width c) (s.pending d)); place = d + 1 }

-- the table after a turn, and the words of its answer, of which an idle turn has none
unfoldable pub table_after : List ℕ → Turn → List ℕ
table_after t idle = t
table_after t (serves d c) = step t c

unfoldable pub answer_of : List ℕ → Turn → List ℕ
answer_of t idle = []
answer_of t (serves d c) = answer t c

-- the holders (document 02 (h)) that a turn leaves, of those that it was lent
unfoldable pub holders_after_turn : List ℕ → Turn → List ℕ → List ℕ
holders_after_turn t idle holders = holders
holders_after_turn t (serves d c) holders = holders_of (step t c)

-- 6 where a turn serves a call and there is no space for its three answer words; an idle turn needs none
unfoldable pub answer_code : Turn → ℕ → ℕ
answer_code idle space = 0
answer_code (serves d c) space = cond (ltb space 3) 6 0

-- the code of a turn with so many words lent for its answer and for the holders: the table's 2 to 5, then 6 where the holders
-- aren't one word a domain, idle or not, then 6 where a call is pending and its answer has no space; 0 where nothing refuses it
unfoldable pub turn_code : List ℕ → Turns → ℕ → ℕ → ℕ
turn_code t s space lent =
    cond (not (eqb (table_code t) 0)) (table_code t)
    (cond (not (eqb lent (domains t))) 6 (answer_code (turn_of (domains t) s) space))
