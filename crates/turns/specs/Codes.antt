-- The codes of the answers (document 02 (m)): 35, 36 and 37, document 01's 2 to 6, and 99, which no paper uses, for a state whose
-- length isn't the one for n domains.
use Rattle.std.specs.Prelude.{ℕ, cond, eqb, Result, Ok, Err, ⊤}
use Rattle.result_code.specs.Code.{result_code}
use Rattle.table_check.specs.Checked.{refusal_code}
use Rattle.run_result.specs.Entry.{entry_refusal_code}
use Rattle.turns.specs.declared.HandInRefusal.{HandInRefusal}
use Rattle.turns.specs.declared.HandInRefusal.TheVariants as hand_in
use Rattle.turns.specs.declared.TurnRefusal.{TurnRefusal}
use Rattle.turns.specs.declared.TurnRefusal.TheVariants as turn
use Rattle.turns.specs.declared.Turned.{Turned}
use Rattle.turns.specs.declared.Turned.TheVariants.{Idle, Served}

-- the code for a state of another length
abbrev pub bad_turns : ℕ
bad_turns = 99

-- the first code, or the next where the first is 0
unfoldable pub then_code : ℕ → ℕ → ℕ
then_code k next = cond (eqb k 0) next k

abbrev pub hand_in_refusal_code : HandInRefusal → ℕ
hand_in_refusal_code (hand_in.BadTable r) = refusal_code r
hand_in_refusal_code hand_in.UnknownDomain = 35
hand_in_refusal_code hand_in.NotOneCall = 36
hand_in_refusal_code hand_in.BadTurns = bad_turns
hand_in_refusal_code hand_in.NoRoom = 37

abbrev pub handed_in_code : Result ⊤ HandInRefusal → ℕ
handed_in_code r = result_code hand_in_refusal_code r

abbrev pub turn_refusal_code : TurnRefusal → ℕ
turn_refusal_code (turn.Entry r) = entry_refusal_code r
turn_refusal_code turn.BadTurns = bad_turns

abbrev pub begun_code : Result ⊤ TurnRefusal → ℕ
begun_code r = result_code turn_refusal_code r

abbrev pub turned_code : Result Turned TurnRefusal → ℕ
turned_code r = result_code turn_refusal_code r

-- how many calls a turn served: one that isn't refused, and one that may be
abbrev pub calls_served : Turned → ℕ
calls_served Idle = 0
calls_served Served = 1

abbrev pub turned_served : Result Turned TurnRefusal → ℕ
turned_served (Err r) = 0
turned_served (Ok x) = calls_served x
