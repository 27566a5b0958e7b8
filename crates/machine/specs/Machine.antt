-- One call on a table: the decision on it, what that does to the table, and its three answer words (document 01, 'The calls',
-- 'Where each number is checked' and 'The striking rule').
-- Deciding only reads. Only an effect writes.
use Rattle.std.specs.Prelude.{ℕ, ◌+◌, ◌*◌, ◌^◌, Bool, true, false, cond, not, ◌&&◌, List, [], ◌∷◌, eqb, ltb}
use Rattle.std.proofs.Math.Option.{Option, none, some}
use Rattle.machine.specs.Below.{first_below, sum_below}
use Rattle.machine.specs.Word.{kind, caller, field_a, field_b, field_c}
use Rattle.machine.specs.Right.{SEND, GRANT, REMOVE, REVOKE, is_set, holds, adds, without}
use Rattle.machine.specs.Table.{domains, endpoints, rights, endpoint, set_rights, set_endpoint}
use Rattle.machine.specs.Influence.{influences}
use Rattle.machine.specs.Queue.{name, owner, waiting, lost, oldest, sent, received}
use Rattle.machine.specs.Call.{Call, Kind, first, call_kind, one_of, unused_fields, all_zero, has_second, second_payload}
use Rattle.machine.specs.Call.{Kind.look_up, Kind.send, Kind.receive, Kind.my_endpoints, Kind.my_rights, Kind.grant, Kind.remove, Kind.revoke, Kind.stray, Kind.unknown}

-- The decision on a call: a refusal by its code, or the call's row with what it needs.
pub data Decision : Type 0 where
  refused : (code : ℕ) → Decision
  looked_up : (e : ℕ) → Decision
  sends : (e message : ℕ) → Decision
  receives : (e : ℕ) → Decision
  lists_endpoints : (u : ℕ) → Decision
  lists_rights : (u : ℕ) → Decision
  grants : (target recipient r : ℕ) → Decision
  removes : (target u r : ℕ) → Decision
  revokes : (target holder r : ℕ) → Decision

-- u may send to the endpoint e: it has SEND on its owner, be that itself or another (document 02 (f))
unfoldable pub may_send : List ℕ → ℕ → ℕ → Bool
may_send t u e = holds (rights t u (owner (endpoint t e))) SEND

-- the endpoint that has a name, the first where a name repeats
unfoldable pub named : List ℕ → ℕ → Option ℕ
named t x = first_below (endpoints t) (λ e. eqb (name (endpoint t e)) x)

-- nothing was found
unfoldable pub is_none : Option ℕ → Bool
is_none none = true
is_none (some e) = false

-- what was found, or 0
unfoldable pub or_zero : Option ℕ → ℕ
or_zero none = 0
or_zero (some e) = e

-- every kind but a stray and the unknown ones
abbrev pub calls : List Kind
calls = look_up ∷ send ∷ receive ∷ my_endpoints ∷ my_rights ∷ grant ∷ remove ∷ revoke ∷ []

-- The paper's table 'Where each number is checked' from 10 on, with document 02 (b), (f) and (i): the kinds of call that have the
-- place, its code, and whether the call c is to be refused there.
unfoldable pub places_of : List ℕ → Call → List (List Kind × ℕ × Bool)
places_of t c =
    let u = caller (first c) in
    let a = field_a (first c) in
    let b = field_b (first c) in
    let r = field_c (first c) in
    (stray ∷ [], 10, true)
    ∷ (unknown ∷ [], 11, true)
    ∷ (calls, 12, not (ltb u (domains t)))
    ∷ (calls, 13, not (all_zero (unused_fields (call_kind c) (first c))))
    ∷ (look_up ∷ send ∷ [], 14, not (has_second c))
    ∷ (look_up ∷ [], 15, is_none (named t (second_payload c)))
    ∷ (send ∷ receive ∷ [], 16, not (ltb b (endpoints t)))
    ∷ (send ∷ [], 17, not (may_send t u b))
    ∷ (receive ∷ [], 18, not (eqb (owner (endpoint t b)) u))
    ∷ (receive ∷ [], 19, eqb (waiting (endpoint t b)) 0)
    ∷ (grant ∷ revoke ∷ [], 20, not (ltb a (domains t) && ltb b (domains t)))
    ∷ (remove ∷ [], 20, not (ltb a (domains t)))
    ∷ (grant ∷ remove ∷ revoke ∷ [], 21, not (is_set r))
    ∷ (grant ∷ [], 22, not (holds (rights t u a) GRANT && holds (rights t u a) r))
    ∷ (remove ∷ [], 22, not (holds (rights t u a) REMOVE && holds (rights t u a) r))
    ∷ (revoke ∷ [], 22, not (holds (rights t u a) REVOKE))
    ∷ (grant ∷ revoke ∷ [], 23, not (influences t u b))
    ∷ []

-- the first of the places that the kind has and that refuses, or else the row
unfoldable pub first_refusal : Kind → List (List Kind × ℕ × Bool) → Decision → Decision
first_refusal k [] row = row
first_refusal k (p ∷ ps) row = cond (one_of k p.0 && p.2) (refused p.1) (first_refusal k ps row)

-- the row of a call of kind k; a stray and a call of unknown kind have none
unfoldable pub row_of : List ℕ → Call → Kind → Decision
row_of t c look_up = looked_up (or_zero (named t (second_payload c)))
row_of t c send = sends (field_b (first c)) (second_payload c)
row_of t c receive = receives (field_b (first c))
row_of t c my_endpoints = lists_endpoints (caller (first c))
row_of t c my_rights = lists_rights (caller (first c))
row_of t c grant = grants (field_a (first c)) (field_b (first c)) (field_c (first c))
row_of t c remove = removes (field_a (first c)) (caller (first c)) (field_c (first c))
row_of t c revoke = revokes (field_a (first c)) (field_b (first c)) (field_c (first c))
row_of t c stray = refused 10
row_of t c unknown = refused 11

-- the decision on a call on the table t
unfoldable pub decide : List ℕ → Call → Decision
decide t c = first_refusal (call_kind c) (places_of t c) (row_of t c (call_kind c))

-- What a decision alters: nothing, one rights word, or one endpoint's twelve words.
pub data Effect : Type 0 where
  nothing : Effect
  new_rights : (holder target s : ℕ) → Effect
  new_endpoint : (e : ℕ) (words : List ℕ) → Effect

-- what a decision on the table t alters
unfoldable pub effect : List ℕ → Decision → Effect
effect t (refused code) = nothing
effect t (looked_up e) = nothing
effect t (sends e message) = new_endpoint e (sent (endpoint t e) message)
effect t (receives e) = new_endpoint e (received (endpoint t e))
effect t (lists_endpoints u) = nothing
effect t (lists_rights u) = nothing
effect t (grants g h r) = new_rights h g (adds (rights t h g) r)
effect t (removes g u r) = new_rights u g (without (rights t u g) r)
effect t (revokes g h r) = new_rights h g (without (rights t h g) r)

-- the table t with what an effect alters
unfoldable pub after : List ℕ → Effect → List ℕ
after t nothing = t
after t (new_rights h g s) = set_rights t h g s
after t (new_endpoint e q) = set_endpoint t e q

-- the table after a call
unfoldable pub step : List ℕ → Call → List ℕ
step t c = after t (effect t (decide t c))

-- bit e is set for each endpoint e that u owns
unfoldable pub owned_bits : List ℕ → ℕ → ℕ
owned_bits t u = sum_below (endpoints t) (λ e. cond (eqb (owner (endpoint t e)) u) (2 ^ e) 0)

-- the rights of u on the eight targets from g on, four bits each; none on a target that isn't a domain
unfoldable pub rights_bits : List ℕ → ℕ → ℕ → ℕ
rights_bits t u g = sum_below 8 (λ i. cond (ltb (g + i) (domains t)) (rights t u (g + i)) 0 * 16 ^ i)

-- the code of the answer to a decision: that of the refusal, or 0 where no place fails
unfoldable pub code : Decision → ℕ
code (refused n) = n
code (looked_up e) = 0
code (sends e message) = 0
code (receives e) = 0
code (lists_endpoints u) = 0
code (lists_rights u) = 0
code (grants g h r) = 0
code (removes g u r) = 0
code (revokes g h r) = 0

-- the two data words of the answer to a decision on the table t, zero where its row names none
unfoldable pub data_words : List ℕ → Decision → ℕ × ℕ
data_words t (refused n) = (0, 0)
data_words t (looked_up e) = (e, 0)
data_words t (sends e message) = (0, 0)
data_words t (receives e) = (oldest (endpoint t e), lost (endpoint t e))
data_words t (lists_endpoints u) = (owned_bits t u, 0)
data_words t (lists_rights u) = (rights_bits t u 0, rights_bits t u 8)
data_words t (grants g h r) = (0, 0)
data_words t (removes g u r) = (0, 0)
data_words t (revokes g h r) = (0, 0)

-- the caller that an answer shows: as found, and 0 for a stray
unfoldable pub shown_caller : Call → ℕ
shown_caller c = cond (eqb (kind (first c)) 15) 0 (caller (first c))

-- an answer's first word: kind in bits 31–28, caller in bits 27–22, code in bits 15–0
unfoldable pub answer_word : Call → ℕ → ℕ
answer_word c n = kind (first c) * 268435456 + shown_caller c * 4194304 + n

-- a call's three answer words
unfoldable pub answer_to : List ℕ → Call → Decision → List ℕ
answer_to t c d = answer_word c (code d) ∷ (data_words t d).0 ∷ (data_words t d).1 ∷ []

-- the answer to a call on the table t
unfoldable pub answer : List ℕ → Call → List ℕ
answer t c = answer_to t c (decide t c)
