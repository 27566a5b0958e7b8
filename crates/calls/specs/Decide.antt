-- The machine's decision on a decoded call. Place 12 is the one that needs a table before the kind's own places. It is between
-- 11 and 13, so it comes before a refusal by 13 or 14 and after one by 10 or 11
-- (document 01, 'Where each number is checked').
use Rattle.std.specs.Prelude.{ℕ, cond, not, List, ltb}
use Rattle.machine.specs.Table.{domains}
use Rattle.machine.specs.Machine.{Decision, named}
use Rattle.machine.specs.Guards.{place, look_up_places, send_places, receive_places, grant_places, remove_places, revoke_places}
use Rattle.machine.specs.Machine.{Decision.refused, Decision.lists_endpoints, Decision.lists_rights}
use Rattle.calls.specs.Number.{number_of}
use Rattle.calls.specs.declared.Refusal.{Refusal}
use Rattle.calls.specs.declared.Call.{Call}
use Rattle.calls.specs.declared.Call.TheVariants.{LookUp, Send, Receive, MyEndpoints, MyRights, Grant, Remove, Revoke, Refused}

-- place 12, and then the next
unfoldable pub known_caller : List ℕ → ℕ → Decision → Decision
known_caller t u next = place (not (ltb u (domains t))) 12 next

-- a call of u that is refused without a table
unfoldable pub refused_call : List ℕ → ℕ → Refusal → Decision
refused_call t u r = cond (ltb (number_of r) 12) (refused (number_of r)) (known_caller t u (refused (number_of r)))

-- the decision on a decoded call, on the table t
unfoldable pub decide_call : List ℕ → Call → Decision
decide_call t (Refused u r) = refused_call t u r
decide_call t (LookUp u x) = known_caller t u (look_up_places (named t x))
decide_call t (Send u e message) = known_caller t u (send_places t u e message)
decide_call t (Receive u e) = known_caller t u (receive_places t u e)
decide_call t (MyEndpoints u) = known_caller t u (lists_endpoints u)
decide_call t (MyRights u) = known_caller t u (lists_rights u)
decide_call t (Grant u g h r) = known_caller t u (grant_places t u g h r)
decide_call t (Remove u g r) = known_caller t u (remove_places t u g r)
decide_call t (Revoke u g h r) = known_caller t u (revoke_places t u g h r)
