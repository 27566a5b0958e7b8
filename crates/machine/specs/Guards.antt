-- The decision on a call as nested tests, kind by kind: the form in which the code tests and in which proofs go through the cases.
-- It is shown to be `decide` (proofs/Places), so nothing here must be believed.
use Rattle.std.specs.Prelude.{ℕ, Bool, cond, not, ◌&&◌, List, eqb, ltb}
use Rattle.std.proofs.Math.Option.{Option, none, some}
use Rattle.machine.specs.Word.{kind, caller, field_a, field_b, field_c}
use Rattle.machine.specs.Right.{GRANT, REMOVE, REVOKE, is_set, holds}
use Rattle.machine.specs.Table.{domains, endpoints, rights, endpoint}
use Rattle.machine.specs.Influence.{influences}
use Rattle.machine.specs.Queue.{owner, waiting}
use Rattle.machine.specs.Call.{Call, Kind, first, wants_second, unused_fields, all_zero, has_second, second_payload}
use Rattle.machine.specs.Call.{Kind.look_up, Kind.send, Kind.receive, Kind.my_endpoints, Kind.my_rights, Kind.grant, Kind.remove, Kind.revoke, Kind.stray, Kind.unknown}
use Rattle.machine.specs.Machine.{Decision, may_send, named}
use Rattle.machine.specs.Machine.{Decision.refused, Decision.looked_up, Decision.sends, Decision.receives, Decision.lists_endpoints, Decision.lists_rights, Decision.grants, Decision.removes, Decision.revokes}

-- a place of the paper's table: where its condition holds the call is refused by its code, else the next place is tested
unfoldable pub place : Bool → ℕ → Decision → Decision
place b code next = cond b (refused code) next

-- place 15, and then the look up's row: the endpoint that has the name, if any
unfoldable pub look_up_places : Option ℕ → Decision
look_up_places none = refused 15
look_up_places (some e) = looked_up e

-- the places 16 and 17, and then the send's row: u sends a message to the endpoint e
unfoldable pub send_places : List ℕ → ℕ → ℕ → ℕ → Decision
send_places t u e message =
    place (not (ltb e (endpoints t))) 16 (place (not (may_send t u e)) 17 (sends e message))

-- the places 16, 18 and 19, and then the receive's row: u receives from the endpoint e
unfoldable pub receive_places : List ℕ → ℕ → ℕ → Decision
receive_places t u e =
    place (not (ltb e (endpoints t))) 16
    (place (not (eqb (owner (endpoint t e)) u)) 18 (place (eqb (waiting (endpoint t e)) 0) 19 (receives e)))

-- the places 20 to 23, and then the row, of a call by which u alters h's rights on the target g by the set r: place 22 tests
-- `may`, and place 23 whether u influences h
unfoldable pub rights_places : List ℕ → ℕ → ℕ → ℕ → ℕ → Bool → Decision → Decision
rights_places t u g h r may row =
    place (not (ltb g (domains t) && ltb h (domains t))) 20
    (place (not (is_set r)) 21 (place (not may) 22 (place (not (influences t u h)) 23 row)))

-- a grant: u gives the rights r on the target g, which it must hold, to the recipient h
unfoldable pub grant_places : List ℕ → ℕ → ℕ → ℕ → ℕ → Decision
grant_places t u g h r =
    rights_places t u g h r (holds (rights t u g) GRANT && holds (rights t u g) r) (grants g h r)

-- a revoke (document 02 (i)): u clears the rights r on the target g from the holder h's, whatever h holds
unfoldable pub revoke_places : List ℕ → ℕ → ℕ → ℕ → ℕ → Decision
revoke_places t u g h r = rights_places t u g h r (holds (rights t u g) REVOKE) (revokes g h r)

-- the places 20 to 22, and then the remove's row: u clears the rights r, all of which it must hold, from its own on the target g
-- (document 02 (b))
unfoldable pub remove_places : List ℕ → ℕ → ℕ → ℕ → Decision
remove_places t u g r =
    place (not (ltb g (domains t))) 20 (place (not (is_set r)) 21
    (place (not (holds (rights t u g) REMOVE && holds (rights t u g) r)) 22 (removes g u r)))

-- the places 12, 13 and 14, which every known kind has, and then the kind's own
unfoldable pub framed : List ℕ → Call → Kind → Decision → Decision
framed t c k next =
    place (not (ltb (caller (first c)) (domains t))) 12
    (place (not (all_zero (unused_fields k (first c)))) 13 (place (wants_second (kind (first c)) && not (has_second c)) 14 next))

-- every place of a call's kind, in the paper's order
unfoldable pub places : List ℕ → Call → Kind → Decision
places t c stray = refused 10
places t c unknown = refused 11
places t c look_up = framed t c look_up (look_up_places (named t (second_payload c)))
places t c send = framed t c send (send_places t (caller (first c)) (field_b (first c)) (second_payload c))
places t c receive = framed t c receive (receive_places t (caller (first c)) (field_b (first c)))
places t c my_endpoints = framed t c my_endpoints (lists_endpoints (caller (first c)))
places t c my_rights = framed t c my_rights (lists_rights (caller (first c)))
places t c grant =
    framed t c grant (grant_places t (caller (first c)) (field_a (first c)) (field_b (first c)) (field_c (first c)))
places t c remove = framed t c remove (remove_places t (caller (first c)) (field_a (first c)) (field_c (first c)))
places t c revoke =
    framed t c revoke (revoke_places t (caller (first c)) (field_a (first c)) (field_b (first c)) (field_c (first c)))
