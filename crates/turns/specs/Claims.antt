-- What relates the state's words to what a history promises (document 02 (m)), in closed statements: what the words represent after
-- handing in and after a turn is what handing in and a turn leave of what they represented. Each is the type of a theorem in
-- proofs/.
use Rattle.std.specs.Prelude.{ℕ, ◌+◌, ◌≡◌, false, List, eqb, length, get_or, replicate}
use Rattle.machine.specs.Table.{domains}
use Rattle.machine.specs.Call.{Call}
use Rattle.turns_theory.specs.Turns.{begun, hand_in_code, handed_in, turn_code, after_turn, Turn.serves}
use Rattle.turns_theory.specs.Claims.{NextServed}
use Rattle.turns_state.specs.State.{state_length, turns_in, turn_in, state_handed_in, state_after}
use Rattle.turns.specs.Promise.{BeginPromise, hand_in_code_on_state, HandInPromise, TurnWords, TurnOutcome, turn_code_on_state, TurnPromise}

-- words that are all 0, however many, represent the beginning
abbrev pub Begins : Type 0
Begins = (size : ℕ) → turns_in (replicate size 0) ≡ begun

-- Handing in, in a state of the right length: the code is the one for what the words represent, and so is what they represent then.
pub record HandsIn (t ws : List ℕ) (d : ℕ) (vs : List ℕ) : Type 0 where
  pub code : hand_in_code_on_state t ws d vs ≡ hand_in_code t (turns_in ws) d vs
  pub left : hand_in_code_on_state t ws d vs ≡ 0 → turns_in (state_handed_in ws d vs) ≡ handed_in (turns_in ws) d vs
  pub size : hand_in_code_on_state t ws d vs ≡ 0 → length (state_handed_in ws d vs) ≡ length ws

abbrev pub EveryHandIn : Type 0
EveryHandIn = (t ws : List ℕ) (d : ℕ) (vs : List ℕ) → length ws ≡ state_length (domains t) → HandsIn t ws d vs

-- A turn, in a state of the right length.
pub record TurnMade (t ws : List ℕ) (space lent : ℕ) : Type 0 where
  pub code : turn_code_on_state t ws space lent ≡ turn_code t (turns_in ws) space lent
  pub left : turns_in (state_after ws (turn_in t ws)) ≡ after_turn (turns_in ws) (turn_in t ws)
  pub size : length (state_after ws (turn_in t ws)) ≡ length ws

abbrev pub EveryTurn : Type 0
EveryTurn = (t ws : List ℕ) (space lent : ℕ) → length ws ≡ state_length (domains t) → TurnMade t ws space lent

-- ---- whom a turn serves, by its words

-- The domain is the next to be served by the words that were lent, and the call is its oldest; in the words that are left the call
-- is gone and the place is after the domain.
pub record ServedNext (w : TurnWords) (o : TurnOutcome) : Type 0 where
  pub domain : ℕ
  pub call : Call
  pub first : NextServed (domains w.table) (turns_in w.state) domain call
  pub left : turns_in o.left.state ≡ after_turn (turns_in w.state) (serves domain call)
  pub place : get_or o.left.state 0 0 ≡ domain + 1

abbrev pub EveryServedNext : Type 0
EveryServedNext = (w : TurnWords) (o : TurnOutcome) → TurnPromise w o → o.served ≡ 1 → ServedNext w o

-- ---- what changes nothing: every word that was lent is left as it was

-- a beginning that is refused
abbrev pub RefusedBeginChangesNothing : Type 0
RefusedBeginChangesNothing =
    (t ws holders : List ℕ) (code : ℕ) (ws' kept : List ℕ)
    → BeginPromise t ws holders code ws' kept
    → eqb code 0 ≡ false
    → (ws' ≡ ws) × (kept ≡ holders)

-- handing in that is refused
abbrev pub RefusedHandInChangesNothing : Type 0
RefusedHandInChangesNothing =
    (t ws : List ℕ) (d : ℕ) (vs : List ℕ) (code : ℕ) (ws' : List ℕ)
    → HandInPromise t ws d vs code ws'
    → eqb code 0 ≡ false
    → ws' ≡ ws

-- a turn that serves no call: it is refused, or it is idle
abbrev pub UnservedTurnChangesNothing : Type 0
UnservedTurnChangesNothing =
    (w : TurnWords) (o : TurnOutcome)
    → TurnPromise w o
    → (eqb o.code 0 ≡ false → o.served ≡ 0) × (o.served ≡ 0 → o.left ≡ w)
