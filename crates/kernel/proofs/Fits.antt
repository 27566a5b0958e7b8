-- On an accepted table the queue of every endpoint can be sent to, and received from where a message waits. The data words of
-- an answer are in the table and have at most 32 bits. Assumes nothing.
use mathlib.Core.Path.{◌≡◌, sym, subst, ◌∙◌}
use mathlib.Core.Bool.{Bool, true, false, cond, not, ◌&&◌}
use mathlib.Core.List.{List}
use Prim.Native.Nat.{ℕ, ◌+◌, ◌-◌, ◌^◌, ◌<◌, ◌≤◌}
use native.Mathlib.Nat.{lt_of_lt_of_le, mod-eq_of_lt, pow-le-pow_right}
use native.Mathlib.Omega.{arith}
use lib.Dec.{eqb, ltb}
use lib.ListN.{length}
use borrow.Author.Tests.{le-leb, ltb-true}
use Rattle.machine.specs.Word.{most_payload, kind, caller}
use Rattle.machine.specs.Table.{domains, endpoints, rights_at, endpoint_at, endpoint}
use Rattle.machine.specs.Queue.{owner, waiting}
use Rattle.machine.specs.Check.{Accepted}
use Rattle.machine.specs.Call.{Kind, kind_of, all_zero, unused_fields, has_second}
use Rattle.machine.specs.Call.{Kind.look_up, Kind.send, Kind.receive, Kind.my_endpoints, Kind.my_rights, Kind.grant, Kind.remove, Kind.revoke, Kind.stray, Kind.unknown}
use Rattle.machine.specs.Machine.{owned_bits, rights_bits}
use Rattle.machine.proofs.Accepted.{accepted-sized, accepted-counts, accepted-endpoint, info-of}
use Rattle.machine.proofs.Bools.{cond-elim}
use Rattle.machine.proofs.Queue.{message-small, waiting-most}
use Rattle.machine.proofs.Step.{rights-held}
use Rattle.machine.proofs.Table.{rights-below, endpoint-length}
use Rattle.calls.specs.Split.{call_of}
use Rattle.std.specs.Prelude.{Option}
use Rattle.calls.specs.Decode.{needs_second, whole, of_kind, decoded}
use Rattle.calls.specs.declared.Call.{Call}
use Rattle.calls.specs.declared.Call.TheVariants.{LookUp, Send, Receive, MyEndpoints, MyRights, Grant, Remove, Revoke, Refused}
use Rattle.calls.specs.declared.Refusal.TheVariants.{UnusedField, NoSecondWord}
use Rattle.queue.specs.Queue.{sendable, receivable}
use Rattle.queue.proofs.Laws.{may-be-sent, may-be-received}
use Rattle.answers.specs.Answer.{has_endpoints, has_row, shown}
use Rattle.answers.proofs.Digits.{digits-below}
use Rattle.answers.proofs.AnswerWords.{owns_at, owned-digits, rights_on}

all_shown : {there : Bool} {x : ℕ} → there ≡ true → x < 2 ^ 32 → shown there x ≡ x
unfolding shown
all_shown there fits = rw there (mod-eq_of_lt fits)

-- ---- the message of a send that is decoded fits a word
abbrev MessageFits : Call → Type 0
MessageFits (Send u e message) = message ≤ most_payload
MessageFits (Refused u r) = Unit {0}
MessageFits (LookUp u x) = Unit {0}
MessageFits (Receive u e) = Unit {0}
MessageFits (MyEndpoints u) = Unit {0}
MessageFits (MyRights u) = Unit {0}
MessageFits (Grant u g h r) = Unit {0}
MessageFits (Remove u g r) = Unit {0}
MessageFits (Revoke u g h r) = Unit {0}

module _ (w : ℕ) (s : Option ℕ) where
  whole-fits : (k : Kind) (call : Call) → MessageFits call → MessageFits (whole w s k call)
  unfolding whole
  whole-fits k call fits =
      go (not (all_zero (unused_fields k w))) (needs_second k && not (has_second (call_of w s)))
    where
      go : (unused lacking : Bool) → MessageFits (cond unused (Refused (caller w) UnusedField) (cond lacking (Refused (caller w) NoSecondWord) call))
      go true lacking = tt
      go false true = tt
      go false false = fits

  kind_fits : (k : Kind) → MessageFits (of_kind w s k)
  unfolding of_kind
  kind_fits stray = tt
  kind_fits unknown = tt
  kind_fits look_up = whole-fits look_up _ tt
  kind_fits send = whole-fits send _ (message-small (call_of w s))
  kind_fits receive = whole-fits receive _ tt
  kind_fits my_endpoints = whole-fits my_endpoints _ tt
  kind_fits my_rights = whole-fits my_rights _ tt
  kind_fits grant = whole-fits grant _ tt
  kind_fits remove = whole-fits remove _ tt
  kind_fits revoke = whole-fits revoke _ tt

  pub message-fits : {call : Call} {u e message : ℕ} → call ≡ Send u e message → call ≡ decoded w s → message ≤ most_payload
  unfolding decoded
  message-fits is same = subst MessageFits (sym same ∙ is) (kind_fits (kind_of (kind w)))

module _ (t : List ℕ) (a : Accepted t) where
  -- ---- the queues
  twelve : (e : ℕ) → e < endpoints t → length (endpoint t e) ≡ 12
  twelve = endpoint-length t (accepted-sized t a)

  pub may-send-to : (e message : ℕ) → e < endpoints t → message ≤ most_payload → sendable (endpoint t e) message ≡ true
  may-send-to e message l small =
      let ok = accepted-endpoint t a e l in
      let info = info-of (domains t) _ ok in
      may-be-sent _ _ (twelve e l) info.1 info.2 (waiting-most (domains t) _ ok) small

  pub may-receive-from : (e : ℕ) → e < endpoints t → 1 ≤ waiting (endpoint t e) → receivable (endpoint t e) ≡ true
  may-receive-from e l more = may-be-received _ (twelve e l) more (waiting-most (domains t) _ (accepted-endpoint t a e l))

  -- ---- the data words
  owned-fit : (u : ℕ) → owned_bits t u < 2 ^ 32
  owned-fit u =
      lt_of_lt_of_le (rw owned-digits at (digits-below 2 (owns_at t u) (endpoints t) (λ e l. go (eqb (owner (endpoint t e)) u))))
      (pow-le-pow_right {n = 2} (omega arith) (accepted-counts t a).2)
    where
      go : (b : Bool) → cond b 1 0 < 2
      go true = omega arith
      go false = omega arith

  rights-fit : (u g : ℕ) → u < domains t → rights_bits t u g < 2 ^ 32
  unfolding rights_bits
  rights-fit u g known =
      digits-below 16 (rights_on t u g) 8
      (λ i l.
      cond-elim (λ (x : ℕ). x < 16) (ltb (g + i) (domains t))
      (λ h. omega (arith, rights-held t a u (g + i) known (ltb-true _ _ h)))
      (λ _. omega arith))

  pub endpoints-shown : (u : ℕ) → shown (has_endpoints t) (owned_bits t u) ≡ owned_bits t u
  unfolding has_endpoints
  endpoints-shown u =
      all_shown (le-leb (endpoint_at (domains t) (endpoints t)) (length t) (omega (arith, accepted-sized t a))) (owned-fit u)

  pub rights-shown : (u g : ℕ) → u < domains t → shown (has_row t u) (rights_bits t u g) ≡ rights_bits t u g
  unfolding has_row
  rights-shown u g known =
      all_shown
      (le-leb (rights_at (domains t) u (domains t)) (length t)
      (omega (arith, rights-below (domains t) u (domains t - 1) known (omega arith), accepted-sized t a)))
      (rights-fit u g known)
