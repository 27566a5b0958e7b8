-- The places that test what was read for a call, by plain values (15, 17, 18, 19, 22 and 23), and the decision on a call by these
-- and by its range tests (document 01, 'Where each number is checked').
use Rattle.std.specs.Prelude as std
use Rattle.std.specs.Prelude.{ℕ, Some, None, not, ◌&&◌, ◌||◌, eqb}
use Rattle.std.proofs.Math.Option.{Option, none, some}
use Rattle.machine.specs.Right.{SEND, GRANT, REMOVE, REVOKE, holds, has_any}
use Rattle.machine.specs.Machine.{Decision}
use Rattle.machine.specs.Guards.{place, look_up_places}
use Rattle.machine.specs.Machine.{Decision.refused, Decision.sends, Decision.receives, Decision.lists_endpoints, Decision.lists_rights, Decision.grants, Decision.removes, Decision.revokes}
use Rattle.calls.specs.Number.{number_of}
use Rattle.calls.specs.declared.Call.{Call}
use Rattle.calls.specs.declared.Call.TheVariants.{LookUp, Send, Receive, MyEndpoints, MyRights, Grant, Remove, Revoke, Refused}
use Rattle.rules.specs.Range.{call_numbers}

-- the endpoint that was found for a name
unfoldable pub found_of : std.Option ℕ → Option ℕ
found_of (Some e) = some e
found_of None = none

-- place 17: a message is sent to the endpoint e by one that holds the rights s on its owner
unfoldable pub send_access : ℕ → ℕ → ℕ → Decision
send_access s e message = place (not (holds s SEND)) 17 (sends e message)

-- places 18 and 19: u receives from the endpoint e of the owner o, where count messages wait
unfoldable pub receive_access : ℕ → ℕ → ℕ → ℕ → Decision
receive_access u o count e = place (not (eqb o u)) 18 (place (eqb count 0) 19 (receives e))

-- places 22 and 23: u gives the rights r on the target g to the recipient h; it holds s on the target and toward on the recipient
unfoldable pub grant_access : ℕ → ℕ → ℕ → ℕ → ℕ → ℕ → Decision
grant_access u g h r s toward =
    place (not (holds s GRANT && holds s r)) 22 (place (not (eqb u h || has_any toward)) 23 (grants g h r))

-- places 22 and 23: u takes the rights r on the target g back from the holder h; it holds s on the target and toward on the holder
unfoldable pub revoke_access : ℕ → ℕ → ℕ → ℕ → ℕ → ℕ → Decision
revoke_access u g h r s toward =
    place (not (holds s REVOKE)) 22 (place (not (eqb u h || has_any toward)) 23 (revokes g h r))

-- place 22: u clears the rights r from its own on the target g, which are s
unfoldable pub remove_access : ℕ → ℕ → ℕ → ℕ → Decision
remove_access u g r s = place (not (holds s REMOVE && holds s r)) 22 (removes g u r)

-- What is read for a call, in whatever layout a table is held: a holder's rights on a target, an endpoint's owner and waiting
-- count, and the endpoint that has a name.
pub record Reading : Type 0 where
  pub rights : ℕ → ℕ → ℕ
  pub owner : ℕ → ℕ
  pub waiting : ℕ → ℕ
  pub named : ℕ → Option ℕ

-- the places of a call after its range tests, by what is read for it
unfoldable pub access_by : Reading → Call → Decision
access_by r (Refused u k) = refused (number_of k)
access_by r (LookUp u x) = look_up_places (r.named x)
access_by r (Send u e message) = send_access (r.rights u (r.owner e)) e message
access_by r (Receive u e) = receive_access u (r.owner e) (r.waiting e) e
access_by r (MyEndpoints u) = lists_endpoints u
access_by r (MyRights u) = lists_rights u
access_by r (Grant u g h s) = grant_access u g h s (r.rights u g) (r.rights u h)
access_by r (Remove u g s) = remove_access u g s (r.rights u g)
access_by r (Revoke u g h s) = revoke_access u g h s (r.rights u g) (r.rights u h)

-- the decision on a call among n domains and m endpoints: its range tests, and then the tests of what is read
abbrev pub decided_by : ℕ → ℕ → Reading → Call → Decision
decided_by n m r call = call_numbers n m call (access_by r call)
