-- What is answered where words of an endpoint's ring are missing, by the decision: nothing is changed and nothing shown.
-- Assumes nothing.
use mathlib.Core.Path.{◌≡◌, sym, ◌∙◌}
use mathlib.Core.List.{List}
use Prim.Native.Nat.{ℕ, ◌+◌, ◌*◌, ◌<◌}
use lib.ListN.{length}
use Rattle.std.specs.Prelude.{Result, Ok, Err}
use Rattle.std.specs.Result.{result_and}
use Rattle.calls.specs.declared.Refusal.{Refusal}
use Rattle.rules.specs.Access.{send_access, receive_access}
use Rattle.rules.specs.Decision.{decision_of}
use Rattle.rules.specs.declared.Decision.{Decision}
use Rattle.rules.proofs.Passed.{passed}
use Rattle.working_endpoint_calls.specs.Outcome.{RingsOutcome}
use Rattle.working_endpoint_calls.proofs.Parts.{not-put, nothing-shown}
use Rattle.working_endpoint_calls.proofs.Outcomes.{queue-refused, queue-sent, queue-received}

module _ (rings : List ℕ) (e : ℕ) (past : length rings < 12 * e + 12) where
  pub sent-beyond :
      (s message : ℕ) (decision : Result Decision Refusal)
      → decision_of decision ≡ send_access s e message
      → RingsOutcome (send_access s e message) rings (result_and decision (Ok (0, 0))) rings
  unfolding send_access
  sent-beyond s message (Err r) is = queue-refused _ _ r is
  sent-beyond s message (Ok x) is = queue-sent _ _ e message _ (sym (passed x _ 17 _ is) ∙ is) (not-put rings e _ past)

  pub received-beyond :
      (u o count : ℕ) (decision : Result Decision Refusal)
      → decision_of decision ≡ receive_access u o count e
      → RingsOutcome (receive_access u o count e) rings (result_and decision (Ok (0, 0))) rings
  unfolding receive_access
  received-beyond u o count (Err r) is = queue-refused _ _ r is
  received-beyond u o count (Ok x) is =
      queue-received _ _ e 0 0 _ (sym (passed x _ 19 _ (passed x _ 18 _ is)) ∙ is) (nothing-shown rings e _ past) (nothing-shown rings e _ past)
      (not-put rings e _ past)
