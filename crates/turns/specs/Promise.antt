-- What the beginning, handing in and a turn promise for arbitrary words: the code, and every lent word at the end (document 02 (m)).
use Rattle.std.specs.Prelude.{ℕ, ◌+◌, ◌≤◌, ◌≡◌, cond, not, List, ◌++◌, eqb, ltb, length, drop}
use Rattle.std.proofs.Math.Option.{some}
use Rattle.machine.specs.Table.{domains}
use Rattle.machine.specs.Check.{table_code}
use Rattle.machine.specs.Call.{split}
use Rattle.machine.specs.Machine.{answer}
use Rattle.machine.specs.Holders.{holders_of}
use Rattle.kernel.specs.Step.{step_entry_code}
use Rattle.turns_theory.specs.Turns.{Turn, most_pending, is_one_of, first_waiting, answer_code, table_after, holders_after_turn, Turn.idle, Turn.serves}
use Rattle.turns_state.specs.Pending.{pending_in}
use Rattle.turns_state.specs.State.{state_length, beginning, block, turns_in, turn_in, state_handed_in, state_after}
use Rattle.turns.specs.Codes.{bad_turns, then_code}

-- 99 where a state's size isn't the one for n domains
unfoldable pub state_code : ℕ → ℕ → ℕ
state_code n size = cond (eqb size (state_length n)) 0 bad_turns

-- ---- the beginning

-- the code, for a state of a size and so many words lent for the holders: the entry's 2 to 5, and 6 for the holders, then 99
unfoldable pub begin_code : List ℕ → ℕ → ℕ → ℕ
begin_code t size lent = then_code (step_entry_code t lent) (state_code (domains t) size)

-- nothing is pending, and the holders are what the table says, where the code is 0; else nothing changes
pub record BeginPromise (t ws holders : List ℕ) (code : ℕ) (ws' kept : List ℕ) : Type 0 where
  pub same_code : code ≡ begin_code t (length ws) (length holders)
  pub state : ws' ≡ cond (eqb code 0) (beginning (domains t)) ws
  pub same_holders : kept ≡ cond (eqb code 0) (holders_of t) holders

-- ---- handing in

-- the code: 2 to 5, 35, 36, then 99 where the state's length isn't the one for n domains, then 37; 0 where nothing refuses
unfoldable pub hand_in_code_on_state : List ℕ → List ℕ → ℕ → List ℕ → ℕ
hand_in_code_on_state t ws d vs =
    cond (not (eqb (table_code t) 0)) (table_code t)
    (cond (not (ltb d (domains t))) 35
    (cond (not (is_one_of d (split vs))) 36
    (cond (not (eqb (length ws) (state_length (domains t)))) bad_turns
    (cond (ltb most_pending (length (pending_in (block ws d)) + length vs)) 37 0))))

-- the words vs are pending of the domain d where the code is 0; else nothing changes
pub record HandInPromise (t ws : List ℕ) (d : ℕ) (vs : List ℕ) (code : ℕ) (ws' : List ℕ) : Type 0 where
  pub same_code : code ≡ hand_in_code_on_state t ws d vs
  pub state : ws' ≡ cond (eqb (hand_in_code_on_state t ws d vs) 0) (state_handed_in ws d vs) ws

-- ---- a turn

-- the words of a turn, as they are lent to it or as it leaves them: the table, the state, the holders and its answer's space
pub record TurnWords : Type 0 where
  pub table : List ℕ
  pub state : List ℕ
  pub holders : List ℕ
  pub answer : List ℕ

abbrev pub words : List ℕ → List ℕ → List ℕ → List ℕ → TurnWords
words t ws holders space = record { table = t; state = ws; holders = holders; answer = space }

-- the outcome of a turn: its code, how many calls it served, and the words that it left
pub record TurnOutcome : Type 0 where
  pub code : ℕ
  pub served : ℕ
  pub left : TurnWords

abbrev pub outcome : ℕ → ℕ → TurnWords → TurnOutcome
outcome code served left = record { code = code; served = served; left = left }

-- the code: the entry's 2 to 5, and 6 for the holders, then 99, then 6 where a call is pending and its answer has no space
unfoldable pub turn_code_on_state : List ℕ → List ℕ → ℕ → ℕ → ℕ
turn_code_on_state t ws space lent =
    then_code (step_entry_code t lent) (then_code (state_code (domains t) (length ws)) (answer_code (turn_in t ws) space))

abbrev pub code_of : TurnWords → ℕ
code_of w = turn_code_on_state w.table w.state (length w.answer) (length w.holders)

-- how many calls a turn serves
unfoldable pub served_by : Turn → ℕ
served_by idle = 0
served_by (serves d c) = 1

-- the answer space after a turn: the three words for a call that was served, before the rest of what was there
unfoldable pub space_after : List ℕ → Turn → List ℕ → List ℕ
space_after t idle space = space
space_after t (serves d c) space = answer t c ++ drop 3 space

-- what a turn that isn't refused returns and leaves: the oldest call of the domain that is next is served, if any is pending
unfoldable pub turn_made : TurnWords → Turn → TurnOutcome
turn_made w x =
    outcome 0 (served_by x)
    (words (table_after w.table x) (state_after w.state x) (holders_after_turn w.table x w.holders) (space_after w.table x w.answer))

-- what a turn returns and leaves, of the words that it is lent; one that is refused changes nothing
unfoldable pub turn_outcome : TurnWords → TurnOutcome
turn_outcome w = cond (eqb (code_of w) 0) (turn_made w (turn_in w.table w.state)) (outcome (code_of w) 0 w)

abbrev pub TurnPromise : TurnWords → TurnOutcome → Type 0
TurnPromise w o = o ≡ turn_outcome w

-- the precondition of `serve`: the state has the right length, the domain d is the next, and there is space for its answer
pub record MayServe (t ws space : List ℕ) (d : ℕ) : Type 0 where
  pub size : length ws ≡ state_length (domains t)
  pub next : first_waiting (domains t) (turns_in ws) ≡ some d
  pub room : 3 ≤ length space
