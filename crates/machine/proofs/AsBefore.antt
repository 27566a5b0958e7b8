-- A run in which a receive moves all the slots up is the same (specs/AsBefore). Assumes nothing.
use mathlib.Core.Path.{◌≡◌, refl, sym, ap, ◌∙◌}
use mathlib.Core.Bool.{Bool, true, false, cond}
use mathlib.Core.List.{List, [], ◌∷◌, ◌++◌}
use Prim.Native.Nat.{ℕ, ◌+◌, ◌<◌, ◌≤◌, min}
use native.Mathlib.Omega.{arith}
use borrow.Author.Tests.{ltb-false}
use lib.ListN.{set}
use Rattle.machine.specs.Word.{word}
use Rattle.machine.specs.Table.{domains, endpoints, endpoint}
use Rattle.machine.specs.Queue.{capacity, waiting, lost, most_lost, has_space, send_with_space, send_to_full, sent, received}
use Rattle.machine.specs.Check.{Accepted}
use Rattle.machine.specs.Call.{Call}
use Rattle.machine.specs.Machine.{Decision, Effect.new_endpoint, decide, effect, after, step, answer}
use Rattle.machine.specs.Machine.{Decision.refused, Decision.looked_up, Decision.sends, Decision.receives, Decision.lists_endpoints, Decision.lists_rights, Decision.grants, Decision.removes, Decision.revokes}
use Rattle.machine.specs.Run.{run, answers}
use Rattle.machine.specs.AsBefore.{received_before, sent_before, effect_before, step_before, run_before, answers_before, EveryRunAsBefore}
use Rattle.machine.proofs.Table as table
use Rattle.machine.proofs.Accepted.{accepted-sized, accepted-endpoint, info-of}
use Rattle.machine.proofs.Step.{stays-accepted}
use Rattle.machine.proofs.WordClaims.{receive-as-before}
use Rattle.machine.proofs.CallClaims.{requires}

module _ (t : List ℕ) (a : Accepted t) (e : ℕ) (l : e < endpoints t) where
  received-same : 1 ≤ waiting (endpoint t e) → received_before (endpoint t e) ≡ received (endpoint t e)
  unfolding received_before
  received-same some =
      sym (receive-as-before (domains t) (endpoint t e) (table.endpoint-length t (accepted-sized t a) e l) (accepted-endpoint t a e l) some)

  -- in a full queue a message waits
  sent-same : (m : ℕ) → sent_before (endpoint t e) m ≡ sent (endpoint t e) m
  unfolding sent_before sent send_to_full has_space
  sent-same m = go (has_space (endpoint t e)) refl
    where
      q : List ℕ
      q = endpoint t e

      go : (b : Bool) → has_space q ≡ b → cond b (send_with_space q m) (set (send_with_space (received_before q) m) 3 (word 6 (min (lost q + 1) most_lost))) ≡ cond b (send_with_space q m) (send_to_full q m)
      go true _ = refl
      go false full =
          let some : 1 ≤ waiting q = omega (arith, ltb-false (waiting q) (capacity q) full, info-of (domains t) q (accepted-endpoint t a e l)) in
          ap (λ (p : List ℕ). set (send_with_space p m) 3 (word 6 (min (lost q + 1) most_lost))) (received-same some)

step_same : (t : List ℕ) (c : Call) → Accepted t → step_before t c ≡ step t c
unfolding step_before step effect_before effect
step_same t c a = ap (after t) (go (decide t c) refl)
  where
    go : (d : Decision) → decide t c ≡ d → effect_before t d ≡ effect t d
    go (refused n) _ = refl
    go (looked_up e) _ = refl
    go (sends e m) is = ap (new_endpoint e) (sent-same t a e ((requires t c).send e m is).0 m)
    go (receives e) is =
        let shown = (requires t c).receive e is in
        ap (new_endpoint e) (received-same t a e shown.0 shown.1)
    go (lists_endpoints u) _ = refl
    go (lists_rights u) _ = refl
    go (grants g h r) _ = refl
    go (removes g h r) _ = refl
    go (revokes g h r) _ = refl

pub run-as-before : EveryRunAsBefore
unfolding run_before answers_before run answers
run-as-before t [] a = (refl, refl)
run-as-before t (c ∷ cs) a =
    let same = step_same t c a in
    let rest = run-as-before (step t c) cs (stays-accepted t c a).accepted in
    let answered = ap (λ (s : List ℕ). answer t c ++ answers_before s cs) same ∙ ap (λ (x : List ℕ). answer t c ++ x) rest.1 in
    (ap (λ (s : List ℕ). run_before s cs) same ∙ rest.0, answered)
