-- Claims about the answer of a call that isn't refused, in closed statements about any table, or about accepted ones where a claim
-- says so (document 01, 'The calls': the column 'Done when not refused'). Each is the type of a theorem in proofs/AnswerClaims.
use Rattle.std.specs.Prelude.{ℕ, ◌<◌, ◌≤◌, ◌≡◌, List, [], ◌∷◌}
use Rattle.machine.specs.Word.{caller, field_b}
use Rattle.machine.specs.Table.{endpoints, endpoint}
use Rattle.machine.specs.Queue.{name, lost, oldest}
use Rattle.machine.specs.Check.{Accepted}
use Rattle.machine.specs.Call.{Call, first, call_kind, second_payload}
use Rattle.machine.specs.Call.{Kind.look_up, Kind.send, Kind.receive, Kind.my_endpoints, Kind.my_rights, Kind.grant, Kind.remove, Kind.revoke}
use Rattle.machine.specs.Machine.{decide, Decision.refused, Decision.looked_up, owned_bits, rights_bits, answer_word, answer}

-- no code refuses the call c on the table t
abbrev pub Unrefused : List ℕ → Call → Type 0
Unrefused t c = (n : ℕ) → decide t c ≡ refused n → ⊥

-- The three answer words of a call that isn't refused, by its kind: the code is 0, and the two data words are those that its row
-- names. A send, a grant, a remove and a revoke name none, so they have the same answer whatever the table holds.
pub record AnswersByKind (t : List ℕ) (c : Call) : Type 0 where
  pub send : call_kind c ≡ send → answer t c ≡ answer_word c 0 ∷ 0 ∷ 0 ∷ []
  pub grant : call_kind c ≡ grant → answer t c ≡ answer_word c 0 ∷ 0 ∷ 0 ∷ []
  pub remove : call_kind c ≡ remove → answer t c ≡ answer_word c 0 ∷ 0 ∷ 0 ∷ []
  pub revoke : call_kind c ≡ revoke → answer t c ≡ answer_word c 0 ∷ 0 ∷ 0 ∷ []
  -- the oldest message and the lost count of the endpoint that B names
  pub receive : call_kind c ≡ receive
      → answer t c ≡ answer_word c 0 ∷ oldest (endpoint t (field_b (first c))) ∷ lost (endpoint t (field_b (first c))) ∷ []
  -- the endpoints that the caller owns, and its rights on targets 0 to 7 and 8 to 15 (specs/WordClaims says which bits these are)
  pub my_endpoints : call_kind c ≡ my_endpoints → answer t c ≡ answer_word c 0 ∷ owned_bits t (caller (first c)) ∷ 0 ∷ []
  pub my_rights : call_kind c ≡ my_rights
      → answer t c ≡ answer_word c 0 ∷ rights_bits t (caller (first c)) 0 ∷ rights_bits t (caller (first c)) 8 ∷ []

-- "A send answers 0 whether or not there was space" (document 01, 'The calls'), a revoke "whether the holder had them or not"
-- (document 02 (i)), and what the other rows name, on any table.
abbrev pub EveryUnrefusedAnswer : Type 0
EveryUnrefusedAnswer = (t : List ℕ) (c : Call) → Unrefused t c → AnswersByKind t c

-- A look up that no place before 15 refuses: it finds the endpoint e exactly where e has the name, and answers its index; it is
-- refused by 15 exactly where no endpoint has the name.
pub record LooksUp (t : List ℕ) (c : Call) : Type 0 where
  pub found : (e : ℕ) → e < endpoints t → name (endpoint t e) ≡ second_payload c → decide t c ≡ looked_up e
  pub named : (e : ℕ) → decide t c ≡ looked_up e → (e < endpoints t) × (name (endpoint t e) ≡ second_payload c)
  pub answered : (e : ℕ) → decide t c ≡ looked_up e → answer t c ≡ answer_word c 0 ∷ e ∷ 0 ∷ []
  pub absent : ((e : ℕ) → e < endpoints t → name (endpoint t e) ≡ second_payload c → ⊥) → decide t c ≡ refused 15
  pub unnamed : decide t c ≡ refused 15 → (e : ℕ) → e < endpoints t → name (endpoint t e) ≡ second_payload c → ⊥

-- "First data word is the endpoint's number" and 15, "no endpoint has the name" (document 01), on an accepted table.
abbrev pub EveryLookUp : Type 0
EveryLookUp =
    (t : List ℕ) (c : Call)
    → Accepted t
    → call_kind c ≡ look_up
    → ((n : ℕ) → n ≤ 14 → decide t c ≡ refused n → ⊥)
    → LooksUp t c
