-- The machine's places of a call are its range tests, followed by the tests of what the table holds, kind by kind.
-- Assumes nothing.
use mathlib.Core.Path.{◌≡◌, refl, ap₂, ◌∙◌}
use mathlib.Core.List.{List}
use Prim.Native.Nat.{ℕ}
use Rattle.machine.specs.Table.{domains, endpoints, rights, endpoint}
use Rattle.machine.specs.Queue.{owner, waiting}
use Rattle.machine.specs.Guards as guards
use Rattle.machine.specs.Machine.{Decision, may_send, named}
use Rattle.machine.specs.Influence.{influences, reaches}
use Rattle.calls.specs.Decide.{known_caller, refused_call, decide_call}
use Rattle.calls.specs.declared.Call.{Call}
use Rattle.calls.specs.declared.Call.TheVariants.{LookUp, Send, Receive, MyEndpoints, MyRights, Grant, Remove, Revoke, Refused}
use Rattle.std.specs.Prelude.{Result, ⊤}
use Rattle.calls.specs.declared.Refusal.{Refusal}
use Rattle.rules.specs.Range.{followed, caller_number, refused_numbers, endpoint_numbers, grant_numbers, remove_numbers, call_numbers}
use Rattle.rules.specs.Access.{send_access, receive_access, grant_access, revoke_access, remove_access, Reading, access_by, decided_by}

-- what is read from a table's words
abbrev pub reading_of : List ℕ → Reading
reading_of t =
    record {
      rights = rights t;
      owner = λ e. owner (endpoint t e);
      waiting = λ e. waiting (endpoint t e);
      named = named t;
    }

pub decide-places : (t : List ℕ) (call : Call) → decided_by (domains t) (endpoints t) (reading_of t) call ≡ decide_call t call
unfolding call_numbers access_by decide_call caller_number known_caller refused_numbers refused_call endpoint_numbers grant_numbers remove_numbers send_access receive_access grant_access revoke_access remove_access may_send influences reaches guards.send_places guards.receive_places guards.rights_places guards.grant_places guards.revoke_places guards.remove_places
decide-places t (Refused u r) = refl
decide-places t (LookUp u x) = refl
decide-places t (Send u e message) = refl
decide-places t (Receive u e) = refl
decide-places t (MyEndpoints u) = refl
decide-places t (MyRights u) = refl
decide-places t (Grant u g h r) = refl
decide-places t (Remove u g r) = refl
decide-places t (Revoke u g h r) = refl

-- so the range tests by the table's n and m, followed by the tests of what the table holds, give the machine's decision
pub decided : (t : List ℕ) (n m : ℕ) (call : Call) (r : Result ⊤ Refusal)
    → n ≡ domains t
    → m ≡ endpoints t
    → ((next : Decision) → followed r next ≡ call_numbers n m call next)
    → followed r (access_by (reading_of t) call) ≡ decide_call t call
decided t n m call r en em tested =
    tested (access_by (reading_of t) call)
    ∙ ap₂ (λ (a b : ℕ). decided_by a b (reading_of t) call) en em
    ∙ decide-places t call
