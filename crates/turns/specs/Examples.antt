-- Rows that pin the contracts of the beginning and of turns (document 02 (m)) on whole words: a table of two domains and a state
-- of 35 words. Inputs and outcomes are literals, worked out by hand.
use Rattle.std.specs.Prelude.{ℕ, List, [], ◌∷◌, replicate}
use Rattle.machine.specs.Examples.{empty_slots}
use Rattle.turns.specs.Promise.{BeginPromise, TurnWords, TurnOutcome, TurnPromise, words, outcome}

-- A row: a beginning, with its code and the state and the holders that are left; or a turn, of the words that it is lent, with its
-- outcome.
pub data Row : Type 0 where
  begins : (table state holders : List ℕ) (code : ℕ) (left kept : List ℕ) → Row
  turns : (lent : TurnWords) (outcome : TurnOutcome) → Row

-- what a row says
abbrev pub RowHolds : Row → Type 0
RowHolds (begins t ws holders code ws' kept) = BeginPromise t ws holders code ws' kept
RowHolds (turns w o) = TurnPromise w o

-- a turn that changes nothing, with this code
abbrev pub unchanged : TurnWords → ℕ → Row
unchanged w code = turns w (outcome code 0 w)

-- the single claim about a list of such rows: each holds
abbrev pub EveryRow : List Row → Type 0
EveryRow [] = Unit {0}
EveryRow (r ∷ rs) = RowHolds r × EveryRow rs

-- Two domains: 0 has SEND on 1. The one endpoint is 1's.
abbrev pub two : List ℕ
two =
    0x1000_0201
    ∷ 0x2000_0000
    ∷ 0x2000_0001
    ∷ 0x2000_0000
    ∷ 0x2000_0000
    ∷ 0x3000_0011
    ∷ 0x4000_0102
    ∷ 0x5000_0000
    ∷ 0x6000_0000
    ∷ empty_slots

-- the state at the beginning
abbrev pub none_pending : List ℕ
none_pending = replicate 35 0

abbrev pub begin_rows : List Row
begin_rows =
    -- whatever the state and the holders held, nothing is pending then, and the holders are what the table says
    begins two (replicate 35 7) (7 ∷ 8 ∷ []) 0 none_pending (0 ∷ 1 ∷ [])
    ∷ []

abbrev pub turn_rows : List Row
turn_rows =
    -- a turn that is refused changes nothing: too many holders, with nothing pending
    unchanged (words two none_pending (7 ∷ 8 ∷ 9 ∷ []) []) 6
    ∷ []
