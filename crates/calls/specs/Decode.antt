-- A decoded call: what it asks for, or its refusal by one of the places that need no table: 10, 11, 13 and 14, in this order
-- (document 01, 'The calls' and 'Where each number is checked').
use Rattle.std.specs.Prelude.{ℕ, Option, Bool, true, false, cond, not, ◌&&◌}
use Rattle.machine.specs.Word.{kind, caller, field_a, field_b, field_c}
use Rattle.machine.specs.Call as machine
use Rattle.machine.specs.Call.{Kind.look_up, Kind.send, Kind.receive, Kind.my_endpoints, Kind.my_rights, Kind.grant, Kind.remove, Kind.revoke, Kind.stray, Kind.unknown}
use Rattle.calls.specs.declared.Call.{Call}
use Rattle.calls.specs.declared.Call.TheVariants.{LookUp, Send, Receive, MyEndpoints, MyRights, Grant, Remove, Revoke, Refused}
use Rattle.calls.specs.declared.Refusal.TheVariants.{Stray, UnknownKind, UnusedField, NoSecondWord}
use Rattle.calls.specs.Split.{call_of}

-- the kinds of call that want a second word
unfoldable pub needs_second : machine.Kind → Bool
needs_second look_up = true
needs_second send = true
needs_second receive = false
needs_second my_endpoints = false
needs_second my_rights = false
needs_second grant = false
needs_second remove = false
needs_second revoke = false
needs_second stray = false
needs_second unknown = false

-- the places 13 and 14, which every known kind has: the kind's unused fields are zero, and the second word that it wants is there
unfoldable pub whole : ℕ → Option ℕ → machine.Kind → Call → Call
whole w s k next =
    cond (not (machine.all_zero (machine.unused_fields k w))) (Refused (caller w) UnusedField)
    (cond (needs_second k && not (machine.has_second (call_of w s))) (Refused (caller w) NoSecondWord) next)

-- a call of a kind: its caller and the fields that the kind uses; a stray has no caller, and 0 is in its place
unfoldable pub of_kind : ℕ → Option ℕ → machine.Kind → Call
of_kind w s stray = Refused 0 Stray
of_kind w s unknown = Refused (caller w) UnknownKind
of_kind w s look_up = whole w s look_up (LookUp (caller w) (machine.second_payload (call_of w s)))
of_kind w s send = whole w s send (Send (caller w) (field_b w) (machine.second_payload (call_of w s)))
of_kind w s receive = whole w s receive (Receive (caller w) (field_b w))
of_kind w s my_endpoints = whole w s my_endpoints (MyEndpoints (caller w))
of_kind w s my_rights = whole w s my_rights (MyRights (caller w))
of_kind w s grant = whole w s grant (Grant (caller w) (field_a w) (field_b w) (field_c w))
of_kind w s remove = whole w s remove (Remove (caller w) (field_a w) (field_c w))
of_kind w s revoke = whole w s revoke (Revoke (caller w) (field_a w) (field_b w) (field_c w))

-- the call of a first word and, if there is one, a second
unfoldable pub decoded : ℕ → Option ℕ → Call
decoded w s = of_kind w s (machine.kind_of (kind w))
