-- The decision on a call, by cases: a refusal by a code from 10 to 23, or a row of the call table under all that its places
-- have then shown (specs/Machine). Whatever is proved of every call is proved through this one law.
-- Assumes nothing.
use mathlib.Core.Path.{◌≡◌, refl}
use mathlib.Core.Bool.{Bool, true, false, ◌&&◌}
use mathlib.Core.List.{List}
use mathlib.Core.Option.{Option, none, some}
use Prim.Native.Nat.{ℕ, ◌<◌, ◌≤◌}
use native.Mathlib.Omega.{arith}
use borrow.Author.Tests.{ltb-true, leb-true, eqb-true, eqb-false, not-false}
use lib.Dec.{eqb, leb, ltb}
use Rattle.machine.specs.Word.{kind, caller, field_a, field_b, field_c}
use Rattle.machine.specs.Right.{GRANT, REMOVE, REVOKE, all_rights, is_set, holds}
use Rattle.machine.specs.Table.{domains, endpoints, rights, endpoint}
use Rattle.machine.specs.Queue.{owner, waiting}
use Rattle.machine.specs.Call.{Call, Kind, first, call_kind, caller_of, second_payload}
use Rattle.machine.specs.Call.{Kind.look_up, Kind.send, Kind.receive, Kind.my_endpoints, Kind.my_rights, Kind.grant, Kind.remove, Kind.revoke}
use Rattle.machine.specs.Machine.{Decision, may_send, named, decide}
use Rattle.machine.specs.Guards.{place, look_up_places, send_places, receive_places, rights_places, grant_places, revoke_places, remove_places, framed, places}
use Rattle.machine.specs.Machine.{Decision.refused, Decision.looked_up, Decision.sends, Decision.receives, Decision.lists_endpoints, Decision.lists_rights, Decision.grants, Decision.removes, Decision.revokes}
use Rattle.machine.specs.Influence.{influences}
use Rattle.machine.proofs.Bools.{and_left, and_right}
use Rattle.machine.proofs.KindCases.{kind-elim}
use Rattle.machine.proofs.Places.{decide-places}

-- a place refuses, or the next is tested
pub place-elim : (P : Decision → Type 0) (b : Bool) (n : ℕ) {next : Decision} → P (refused n) → (b ≡ false → P next) → P (place b n next)
unfolding place
place-elim P true n r f = r
place-elim P false n r f = f refl

-- a refusal's code is one of the paper's
pub record Number (n : ℕ) : Type 0 where
  pub least : 10 ≤ n
  pub most : n ≤ 23

-- the call has a caller, and that is a domain
pub record Known (t : List ℕ) (c : Call) : Type 0 where
  pub called_by : caller_of c ≡ some (caller (first c))
  pub below : caller (first c) < domains t

-- what holds of a refusal, and of each row
pub record Rows (t : List ℕ) (c : Call) (P : Decision → Type 0) : Type 0 where
  pub refuses : (n : ℕ) → Number n → P (refused n)
  pub looks_up : Known t c → kind (first c) ≡ 1 → (e : ℕ) → named t (second_payload c) ≡ some e → P (looked_up e)
  pub sending : Known t c → kind (first c) ≡ 2 → field_b (first c) < endpoints t → may_send t (caller (first c)) (field_b (first c)) ≡ true → P (sends (field_b (first c)) (second_payload c))
  pub receiving : Known t c → kind (first c) ≡ 3 → field_b (first c) < endpoints t → owner (endpoint t (field_b (first c))) ≡ caller (first c) → (waiting (endpoint t (field_b (first c))) ≡ 0 → ⊥) → P (receives (field_b (first c)))
  pub endpoints_listed : Known t c → kind (first c) ≡ 4 → P (lists_endpoints (caller (first c)))
  pub rights_listed : Known t c → kind (first c) ≡ 5 → P (lists_rights (caller (first c)))
  pub granting : Known t c → kind (first c) ≡ 6 → field_a (first c) < domains t → field_b (first c) < domains t → field_c (first c) ≤ all_rights → holds (rights t (caller (first c)) (field_a (first c))) GRANT ≡ true → holds (rights t (caller (first c)) (field_a (first c))) (field_c (first c)) ≡ true → influences t (caller (first c)) (field_b (first c)) ≡ true → P (grants (field_a (first c)) (field_b (first c)) (field_c (first c)))
  pub removing : Known t c → kind (first c) ≡ 7 → field_a (first c) < domains t → holds (rights t (caller (first c)) (field_a (first c))) REMOVE ≡ true → holds (rights t (caller (first c)) (field_a (first c))) (field_c (first c)) ≡ true → P (removes (field_a (first c)) (caller (first c)) (field_c (first c)))
  pub revoking : Known t c → kind (first c) ≡ 8 → field_a (first c) < domains t → field_b (first c) < domains t → holds (rights t (caller (first c)) (field_a (first c))) REVOKE ≡ true → influences t (caller (first c)) (field_b (first c)) ≡ true → P (revokes (field_a (first c)) (field_b (first c)) (field_c (first c)))

number : (n : ℕ) → 10 ≤ n → n ≤ 23 → Number n
number n l u = record { least = l; most = u }

-- a known kind's call has a caller
pub calls_back : (k : ℕ) (c : Call) → kind (first c) ≡ k → eqb k 15 ≡ false → caller_of c ≡ some (caller (first c))
unfolding caller_of
calls_back k c e f = rw (e, f)

module _ (t : List ℕ) (c : Call) (P : Decision → Type 0) (rows : Rows t c P) where
  refuse : (n : ℕ) → 10 ≤ n → n ≤ 23 → P (refused n)
  refuse n l u = rows.refuses n (number n l u)

  -- 12, 13 and 14, then the kind's own places
  framed-elim : (k : Kind) (i : ℕ) {next : Decision} → kind (first c) ≡ i → eqb i 15 ≡ false → (Known t c → P next) → P (framed t c k next)
  unfolding framed
  framed-elim k i e f next =
      place-elim P _ 12 (refuse 12 (omega arith) (omega arith))
      (λ below. place-elim P _ 13 (refuse 13 (omega arith) (omega arith))
      (λ _. place-elim P _ 14 (refuse 14 (omega arith) (omega arith))
      (λ _. next (record { called_by = calls_back i c e f; below = ltb-true _ _ (not-false _ below) }))))

  look_up-elim : Known t c → kind (first c) ≡ 1 → (o : Option ℕ) → named t (second_payload c) ≡ o → P (look_up_places o)
  unfolding look_up_places
  look_up-elim k e none q = refuse 15 (omega arith) (omega arith)
  look_up-elim k e (some x) q = rows.looks_up k e x q

  send-elim : Known t c → kind (first c) ≡ 2 → P (send_places t (caller (first c)) (field_b (first c)) (second_payload c))
  unfolding send_places
  send-elim k e =
      place-elim P _ 16 (refuse 16 (omega arith) (omega arith))
      (λ b. place-elim P _ 17 (refuse 17 (omega arith) (omega arith))
      (λ s. rows.sending k e (ltb-true _ _ (not-false _ b)) (not-false _ s)))

  receive-elim : Known t c → kind (first c) ≡ 3 → P (receive_places t (caller (first c)) (field_b (first c)))
  unfolding receive_places
  receive-elim k e =
      place-elim P _ 16 (refuse 16 (omega arith) (omega arith))
      (λ b. place-elim P _ 18 (refuse 18 (omega arith) (omega arith))
      (λ o. place-elim P _ 19 (refuse 19 (omega arith) (omega arith))
      (λ w. rows.receiving k e (ltb-true _ _ (not-false _ b)) (eqb-true _ _ (not-false _ o)) (eqb-false _ _ w))))

  -- 20 to 23 of a grant and of a revoke
  rights-places-elim : (may : Bool) {row : Decision} → (field_a (first c) < domains t → field_b (first c) < domains t → field_c (first c) ≤ all_rights → may ≡ true → influences t (caller (first c)) (field_b (first c)) ≡ true → P row) → P (rights_places t (caller (first c)) (field_a (first c)) (field_b (first c)) (field_c (first c)) may row)
  unfolding rights_places is_set
  rights-places-elim may done =
      place-elim P _ 20 (refuse 20 (omega arith) (omega arith))
      (λ b. place-elim P _ 21 (refuse 21 (omega arith) (omega arith))
      (λ r. place-elim P _ 22 (refuse 22 (omega arith) (omega arith))
      (λ m. place-elim P _ 23 (refuse 23 (omega arith) (omega arith))
      (λ g.
      let target = ltb (field_a (first c)) (domains t) in
      let holder = ltb (field_b (first c)) (domains t) in
      done
      (ltb-true _ _ (and_left target holder (not-false _ b)))
      (ltb-true _ _ (and_right target holder (not-false _ b)))
      (leb-true _ _ (and_right (leb 1 (field_c (first c))) (leb (field_c (first c)) all_rights) (not-false _ r)))
      (not-false _ m)
      (not-false _ g)))))

  grant-elim : Known t c → kind (first c) ≡ 6 → P (grant_places t (caller (first c)) (field_a (first c)) (field_b (first c)) (field_c (first c)))
  unfolding grant_places
  grant-elim k e =
      let mine = rights t (caller (first c)) (field_a (first c)) in
      let able = holds mine GRANT in
      let all = holds mine (field_c (first c)) in
      rights-places-elim (able && all)
      (λ lg lh most may toward. rows.granting k e lg lh most (and_left able all may) (and_right able all may) toward)

  revoke-elim : Known t c → kind (first c) ≡ 8 → P (revoke_places t (caller (first c)) (field_a (first c)) (field_b (first c)) (field_c (first c)))
  unfolding revoke_places
  revoke-elim k e =
      rights-places-elim (holds (rights t (caller (first c)) (field_a (first c))) REVOKE)
      (λ lg lh _ may toward. rows.revoking k e lg lh may toward)

  remove-elim : Known t c → kind (first c) ≡ 7 → P (remove_places t (caller (first c)) (field_a (first c)) (field_c (first c)))
  unfolding remove_places
  remove-elim k e =
      place-elim P _ 20 (refuse 20 (omega arith) (omega arith))
      (λ b. place-elim P _ 21 (refuse 21 (omega arith) (omega arith))
      (λ _. place-elim P _ 22 (refuse 22 (omega arith) (omega arith))
      (λ h.
      let h' = not-false (holds mine REMOVE && holds mine (field_c (first c))) h in
      rows.removing k e (ltb-true _ _ (not-false _ b))
      (and_left (holds mine REMOVE) (holds mine (field_c (first c))) h')
      (and_right (holds mine REMOVE) (holds mine (field_c (first c))) h'))))
    where
      mine : ℕ
      mine = rights t (caller (first c)) (field_a (first c))

  pub decide-elim : P (decide t c)
  unfolding places call_kind
  decide-elim =
      rw (decide-places t c)
      (kind-elim (kind (first c)) (λ k. P (places t c k))
      (λ e. framed-elim look_up 1 e refl (λ k. look_up-elim k e (named t (second_payload c)) refl))
      (λ e. framed-elim send 2 e refl (λ k. send-elim k e))
      (λ e. framed-elim receive 3 e refl (λ k. receive-elim k e))
      (λ e. framed-elim my_endpoints 4 e refl (λ k. rows.endpoints_listed k e))
      (λ e. framed-elim my_rights 5 e refl (λ k. rows.rights_listed k e))
      (λ e. framed-elim grant 6 e refl (λ k. grant-elim k e))
      (λ e. framed-elim remove 7 e refl (λ k. remove-elim k e))
      (λ e. framed-elim revoke 8 e refl (λ k. revoke-elim k e))
      (λ _. refuse 10 (omega arith) (omega arith))
      (refuse 11 (omega arith) (omega arith)))
