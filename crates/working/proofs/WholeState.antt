-- The decision on a call, by its kind: a refusal, or that of the kind's row. So what the call reads and alters of a part of the
-- state is what it reads and alters of the whole. Assumes nothing.
use mathlib.Core.Path.{◌≡◌, refl, sym, ap, subst, ◌∙◌}
use mathlib.Core.List.{List, []}
use mathlib.Core.Option.{Option, none, some}
use Prim.Native.Nat.{ℕ}
use Rattle.std.specs.Prelude.{Result, Err}
use lib.Dec.{ltb}
use Rattle.machine.specs.Machine as machine
use Rattle.machine.specs.Machine.{Decision, code, answer_word}
use Rattle.machine.specs.Guards.{look_up_places}
use Rattle.machine.proofs.Decide.{place-elim}
use Rattle.machine.proofs.Bools.{cond-elim}
use Rattle.calls.specs.Number.{number_of}
use Rattle.calls.specs.declared.Call.{Call}
use Rattle.calls.specs.declared.Refusal.{Refusal}
use Rattle.answers.specs.Answer.{answer_of}
use Rattle.working_endpoint_calls.specs.Outcome.{RingsOutcome}
use Rattle.working_rights_calls.specs.Outcome.{RightsOutcome}
use Rattle.calls.specs.declared.Call.TheVariants.{LookUp, Send, Receive, MyEndpoints, MyRights, Grant, Remove, Revoke, Refused}
use Rattle.rules.specs.Range.{caller_number, refused_numbers, endpoint_numbers, grant_numbers, remove_numbers, call_numbers}
use Rattle.rules.specs.Access.{Reading, send_access, receive_access, grant_access, revoke_access, remove_access, access_by, decided_by}
use Rattle.holders.specs.Noted.{holders_after}
use Rattle.working.specs.Outcome.{StateRead, reads, CallOutcome, answered, StateOutcome}
use Rattle.working_theory.specs.State.{nobody, reading_from, first_from, second_from, answer_from, effect_from, rows_after, rings_after}

-- the row of a call's kind
abbrev Row : (Decision → Type 0) → Call → Type 0
Row P (Refused u k) = Unit {0}
Row P (LookUp u x) = (e : ℕ) → P (machine.looked_up e)
Row P (Send u e message) = P (machine.sends e message)
Row P (Receive u e) = P (machine.receives e)
Row P (MyEndpoints u) = P (machine.lists_endpoints u)
Row P (MyRights u) = P (machine.lists_rights u)
Row P (Grant u g h r) = P (machine.grants g h r)
Row P (Remove u g r) = P (machine.removes g u r)
Row P (Revoke u g h r) = P (machine.revokes g h r)

module _ (P : Decision → Type 0) (refuses : (k : ℕ) → P (machine.refused k)) where
  at_caller : (n u : ℕ) {next : Decision} → P next → P (caller_number n u next)
  unfolding caller_number
  at_caller n u row = place-elim P _ 12 (refuses 12) (λ _. row)

  at-endpoint : (n m u e : ℕ) {next : Decision} → P next → P (endpoint_numbers n m u e next)
  unfolding endpoint_numbers
  at-endpoint n m u e row = at_caller n u (place-elim P _ 16 (refuses 16) (λ _. row))

  at-grant : (n u g h r : ℕ) {next : Decision} → P next → P (grant_numbers n u g h r next)
  unfolding grant_numbers
  at-grant n u g h r row = at_caller n u (place-elim P _ 20 (refuses 20) (λ _. place-elim P _ 21 (refuses 21) (λ _. row)))

  at-remove : (n u g r : ℕ) {next : Decision} → P next → P (remove_numbers n u g r next)
  unfolding remove_numbers
  at-remove n u g r row = at_caller n u (place-elim P _ 20 (refuses 20) (λ _. place-elim P _ 21 (refuses 21) (λ _. row)))

  found : (o : Option ℕ) → ((e : ℕ) → P (machine.looked_up e)) → P (look_up_places o)
  unfolding look_up_places
  found none row = refuses 15
  found (some e) row = row e

  pub decided-elim : (n m : ℕ) (r : Reading) (call : Call) → Row P call → P (decided_by n m r call)
  unfolding call_numbers access_by refused_numbers send_access receive_access grant_access revoke_access remove_access
  decided-elim n m r (Refused u k) row =
      cond-elim P (ltb (number_of k) 12) (λ _. refuses (number_of k)) (λ _. at_caller n u (refuses (number_of k)))
  decided-elim n m r (LookUp u x) row = at_caller n u (found (r.named x) row)
  decided-elim n m r (Send u e message) row = at-endpoint n m u e (place-elim P _ 17 (refuses 17) (λ _. row))
  decided-elim n m r (Receive u e) row =
      at-endpoint n m u e (place-elim P _ 18 (refuses 18) (λ _. place-elim P _ 19 (refuses 19) (λ _. row)))
  decided-elim n m r (MyEndpoints u) row = at_caller n u row
  decided-elim n m r (MyRights u) row = at_caller n u row
  decided-elim n m r (Grant u g h s) row =
      at-grant n u g h s (place-elim P _ 22 (refuses 22) (λ _. place-elim P _ 23 (refuses 23) (λ _. row)))
  decided-elim n m r (Remove u g s) row = at-remove n u g s (place-elim P _ 22 (refuses 22) (λ _. row))
  decided-elim n m r (Revoke u g h s) row =
      at-grant n u g h s (place-elim P _ 22 (refuses 22) (λ _. place-elim P _ 23 (refuses 23) (λ _. row)))

-- ---- the state as a whole
module _ (n m w : ℕ) (rows : List (List ℕ)) (rings : List ℕ) (named : ℕ → Option ℕ) (owned holders : List ℕ) where
  reading : Reading
  reading = reading_from rows rings named

  -- a call that alters nothing, answered from the rows rows₁, the rings rings₁ and the owned endpoints owned₁
  record Quiet (rows₁ : List (List ℕ)) (rings₁ owned₁ : List ℕ) (x : Decision) : Type 0 where
    pub same : answer_from w rows₁ rings₁ owned₁ x ≡ answer_from w rows rings owned x
    pub rows_stay : rows ≡ rows_after rows (effect_from rows rings x)
    pub rings_stay : rings ≡ rings_after rings (effect_from rows rings x)
    pub holders_stay : holders ≡ holders_after holders (effect_from rows rings x)

  quiet-refused : (rows₁ : List (List ℕ)) (rings₁ owned₁ : List ℕ) (k : ℕ) → Quiet rows₁ rings₁ owned₁ (machine.refused k)
  unfolding answer_from first_from second_from code effect_from rows_after rings_after holders_after
  quiet-refused rows₁ rings₁ owned₁ k = record { same = refl; rows_stay = refl; rings_stay = refl; holders_stay = refl }

  quiet-served : (rows₁ : List (List ℕ)) (rings₁ owned₁ words : List ℕ) (call : Call)
      → Row (Quiet rows₁ rings₁ owned₁) call
      → words ≡ answer_from w rows₁ rings₁ owned₁ (decided_by n m reading call)
      → StateOutcome (reads n m rows rings named owned holders) w call (answered words rows rings holders)
  unfolding reading
  quiet-served rows₁ rings₁ owned₁ words call row reported =
      let q = decided-elim (Quiet rows₁ rings₁ owned₁) (quiet-refused rows₁ rings₁ owned₁) n m reading call row in
      record { answer = reported ∙ q.same; rows_left = q.rows_stay; rings_left = q.rings_stay; noted = q.holders_stay }

  module _ (words : List ℕ) (u : ℕ) where
    pub served-refused : (k r : Refusal) → machine.refused (number_of r) ≡ refused_numbers n u k (machine.refused (number_of k)) → words ≡ answer_of w (Err r) → StateOutcome (reads n m rows rings named owned holders) w (Refused u k) (answered words rows rings holders)
    unfolding call_numbers access_by reading answer_from first_from second_from code
    served-refused k r is reported =
        quiet-served [] [] [] words (Refused u k) tt
        (reported ∙ ap (answer_from w [] [] []) is)

    pub served-look-up : (x : ℕ) → words ≡ answer_from w [] [] [] (decided_by n m (reading_from [] [] named) (LookUp u x)) → StateOutcome (reads n m rows rings named owned holders) w (LookUp u x) (answered words rows rings holders)
    unfolding call_numbers access_by reading answer_from first_from second_from code effect_from rows_after rings_after holders_after
    served-look-up x reported =
        quiet-served [] [] [] words (LookUp u x) (λ e. record { same = refl; rows_stay = refl; rings_stay = refl; holders_stay = refl }) reported

    pub served-endpoints : words ≡ answer_from w [] [] owned (decided_by n 0 (reading_from [] [] nobody) (MyEndpoints u)) → StateOutcome (reads n m rows rings named owned holders) w (MyEndpoints u) (answered words rows rings holders)
    unfolding call_numbers access_by reading answer_from first_from second_from code effect_from rows_after rings_after holders_after
    served-endpoints reported =
        quiet-served [] [] owned words (MyEndpoints u) (record { same = refl; rows_stay = refl; rings_stay = refl; holders_stay = refl }) reported

    pub served-rights : words ≡ answer_from w rows [] [] (decided_by n 0 (reading_from [] [] nobody) (MyRights u)) → StateOutcome (reads n m rows rings named owned holders) w (MyRights u) (answered words rows rings holders)
    unfolding call_numbers access_by reading answer_from first_from second_from code effect_from rows_after rings_after holders_after
    served-rights reported =
        quiet-served rows [] [] words (MyRights u) (record { same = refl; rows_stay = refl; rings_stay = refl; holders_stay = refl }) reported

  -- a call on a queue
  record OnQueue (x : Decision) : Type 0 where
    pub same : answer_from w [] rings [] x ≡ answer_from w rows rings owned x
    pub rows_stay : rows ≡ rows_after rows (effect_from rows rings x)
    pub rings_same : rings_after rings (effect_from [] rings x) ≡ rings_after rings (effect_from rows rings x)
    pub holders_stay : holders ≡ holders_after holders (effect_from rows rings x)

  queue-refused : (k : ℕ) → OnQueue (machine.refused k)
  unfolding answer_from first_from second_from code effect_from rows_after rings_after holders_after
  queue-refused k = record { same = refl; rows_stay = refl; rings_same = refl; holders_stay = refl }

  queue-served : (words rings' : List ℕ) (outcome : Result (ℕ × ℕ) Refusal) (call : Call)
      → Row OnQueue call
      → RingsOutcome (decided_by n m reading call) rings outcome rings'
      → words ≡ answer_of w outcome
      → StateOutcome (reads n m rows rings named owned holders) w call (answered words rows rings' holders)
  unfolding reading
  queue-served words rings' outcome call row s reported =
      let q = decided-elim OnQueue queue-refused n m reading call row in
      record { answer = reported ∙ (s.answer w ∙ q.same); rows_left = q.rows_stay; rings_left = s.left ∙ q.rings_same; noted = q.holders_stay }

  module _ (words rings' : List ℕ) (outcome : Result (ℕ × ℕ) Refusal) (u e : ℕ) where
    pub served-send : (message : ℕ) → RingsOutcome (decided_by n m (reading_from rows rings nobody) (Send u e message)) rings outcome rings' → words ≡ answer_of w outcome → StateOutcome (reads n m rows rings named owned holders) w (Send u e message) (answered words rows rings' holders)
    unfolding call_numbers access_by reading answer_from first_from second_from code effect_from rows_after rings_after holders_after
    served-send message s reported =
        queue-served words rings' outcome (Send u e message) (record { same = refl; rows_stay = refl; rings_same = refl; holders_stay = refl }) s reported

    pub served-receive : RingsOutcome (decided_by n m (reading_from [] rings nobody) (Receive u e)) rings outcome rings' → words ≡ answer_of w outcome → StateOutcome (reads n m rows rings named owned holders) w (Receive u e) (answered words rows rings' holders)
    unfolding call_numbers access_by reading answer_from first_from second_from code effect_from rows_after rings_after holders_after
    served-receive s reported =
        queue-served words rings' outcome (Receive u e) (record { same = refl; rows_stay = refl; rings_same = refl; holders_stay = refl }) s reported

  -- a call that alters rights
  record OnRights (x : Decision) : Type 0 where
    pub same : answer_from w rows [] [] x ≡ answer_from w rows rings owned x
    pub altered : effect_from rows [] x ≡ effect_from rows rings x
    pub rings_stay : rings ≡ rings_after rings (effect_from rows rings x)

  rights-refused : (k : ℕ) → OnRights (machine.refused k)
  unfolding answer_from first_from second_from code effect_from rings_after
  rights-refused k = record { same = refl; altered = refl; rings_stay = refl }

  rights-served : (words : List ℕ) (rows' : List (List ℕ)) (holders' : List ℕ) (outcome : Result (ℕ × ℕ) Refusal) (call : Call)
      → Row OnRights call
      → RightsOutcome (decided_by n m reading call) rows holders outcome rows' holders'
      → words ≡ answer_of w outcome
      → StateOutcome (reads n m rows rings named owned holders) w call (answered words rows' rings holders')
  unfolding reading
  rights-served words rows' holders' outcome call row s reported =
      let q = decided-elim OnRights rights-refused n m reading call row in
      record {
        answer = reported ∙ (s.answer w ∙ q.same);
        rows_left = s.left ∙ ap (rows_after rows) q.altered;
        rings_left = q.rings_stay;
        noted = s.noted ∙ ap (holders_after holders) q.altered;
      }

  module _ (words : List ℕ) (rows' : List (List ℕ)) (holders' : List ℕ) (outcome : Result (ℕ × ℕ) Refusal) (u g : ℕ) where
    pub served-grant : (h r : ℕ) → RightsOutcome (decided_by n 0 (reading_from rows [] nobody) (Grant u g h r)) rows holders outcome rows' holders' → words ≡ answer_of w outcome → StateOutcome (reads n m rows rings named owned holders) w (Grant u g h r) (answered words rows' rings holders')
    unfolding call_numbers access_by reading answer_from first_from second_from code effect_from rings_after
    served-grant h r s reported = rights-served words rows' holders' outcome (Grant u g h r) (record { same = refl; altered = refl; rings_stay = refl }) s reported

    pub served-remove : (r : ℕ) → RightsOutcome (decided_by n 0 (reading_from rows [] nobody) (Remove u g r)) rows holders outcome rows' holders' → words ≡ answer_of w outcome → StateOutcome (reads n m rows rings named owned holders) w (Remove u g r) (answered words rows' rings holders')
    unfolding call_numbers access_by reading answer_from first_from second_from code effect_from rings_after
    served-remove r s reported = rights-served words rows' holders' outcome (Remove u g r) (record { same = refl; altered = refl; rings_stay = refl }) s reported

    pub served-revoke : (h r : ℕ) → RightsOutcome (decided_by n 0 (reading_from rows [] nobody) (Revoke u g h r)) rows holders outcome rows' holders' → words ≡ answer_of w outcome → StateOutcome (reads n m rows rings named owned holders) w (Revoke u g h r) (answered words rows' rings holders')
    unfolding call_numbers access_by reading answer_from first_from second_from code effect_from rings_after
    served-revoke h r s reported = rights-served words rows' holders' outcome (Revoke u g h r) (record { same = refl; altered = refl; rings_stay = refl }) s reported

-- what holds of a call holds of the same call
pub here : {s : StateRead} {w : ℕ} {call x y : Call} {o : CallOutcome} → call ≡ x → call ≡ y → StateOutcome s w x o → StateOutcome s w y o
here {s} {w} {call} {x} {y} {o} is same at_x = subst (λ (c : Call). StateOutcome s w c o) (sym is ∙ same) at_x
