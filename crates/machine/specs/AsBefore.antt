-- "Every answer and every table word is the same as before" (document 02 (d)): the machine with a receive that moves all the slots
-- up, and the claim that its runs from accepted tables are the same.
use Rattle.std.specs.Prelude.{ℕ, ◌+◌, ◌-◌, min, ◌≡◌, cond, List, [], ◌∷◌, ◌++◌, take, drop, set}
use Rattle.machine.specs.Word.{word}
use Rattle.machine.specs.Table.{endpoint}
use Rattle.machine.specs.Queue.{waiting, lost, empty_slot, most_lost, has_space, send_with_space}
use Rattle.machine.specs.Check.{Accepted}
use Rattle.machine.specs.Call.{Call}
use Rattle.machine.specs.Machine.{Decision, Effect, Effect.new_endpoint, decide, effect, after, answer}
use Rattle.machine.specs.Machine.{Decision.refused, Decision.looked_up, Decision.sends, Decision.receives, Decision.lists_endpoints, Decision.lists_rights, Decision.grants, Decision.removes, Decision.revokes}
use Rattle.machine.specs.Run.{run, answers}

-- a receive: all the slots after the first move up, and the last is empty
unfoldable pub received_before : List ℕ → List ℕ
received_before q = set (take 4 q ++ (drop 5 q ++ (empty_slot ∷ []))) 2 (word 5 (waiting q - 1))

-- a send, which pushes the oldest message of a full queue out as by that receive
unfoldable pub sent_before : List ℕ → ℕ → List ℕ
sent_before q message =
    cond (has_space q) (send_with_space q message)
    (set (send_with_space (received_before q) message) 3 (word 6 (min (lost q + 1) most_lost)))

-- what a decision on the table t alters by these
unfoldable pub effect_before : List ℕ → Decision → Effect
effect_before t (refused n) = effect t (refused n)
effect_before t (looked_up e) = effect t (looked_up e)
effect_before t (sends e message) = new_endpoint e (sent_before (endpoint t e) message)
effect_before t (receives e) = new_endpoint e (received_before (endpoint t e))
effect_before t (lists_endpoints u) = effect t (lists_endpoints u)
effect_before t (lists_rights u) = effect t (lists_rights u)
effect_before t (grants g h r) = effect t (grants g h r)
effect_before t (removes g h r) = effect t (removes g h r)
effect_before t (revokes g h r) = effect t (revokes g h r)

-- the table after a call, the table after calls, and their answers
unfoldable pub step_before : List ℕ → Call → List ℕ
step_before t c = after t (effect_before t (decide t c))

unfoldable pub run_before : List ℕ → List Call → List ℕ
run_before t [] = t
run_before t (c ∷ cs) = run_before (step_before t c) cs

unfoldable pub answers_before : List ℕ → List Call → List ℕ
answers_before t [] = []
answers_before t (c ∷ cs) = answer t c ++ answers_before (step_before t c) cs

-- From an accepted table both machines give the same, for calls of any number.
abbrev pub EveryRunAsBefore : Type 0
EveryRunAsBefore =
    (t : List ℕ) (cs : List Call) → Accepted t → (run_before t cs ≡ run t cs) × (answers_before t cs ≡ answers t cs)
