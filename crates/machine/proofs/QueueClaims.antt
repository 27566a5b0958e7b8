-- Which words of a queue a call alters (specs/QueueClaims). Assumes nothing.
use mathlib.Core.Path.{◌≡◌, refl, sym, ap, subst, ◌∙◌}
use mathlib.Core.Logic.{◌≢◌, ⊎_elim}
use mathlib.Core.List.{List}
use Prim.Native.Nat.{ℕ, ◌+◌, ◌-◌, ◌<◌, ◌≤◌, min}
use native.Mathlib.Decide.{dec_lt}
use native.Mathlib.Omega.{arith}
use borrow.Author.Tests.{ltb-true, ltb-false}
use lib.ListN.{length, get_or}
use Rattle.machine.specs.Word.{kind, payload, word}
use Rattle.machine.specs.Table.{domains, endpoints, endpoint_at, endpoint, set_endpoint}
use Rattle.machine.specs.Queue.{capacity, waiting, lost, most_lost, has_space, send_with_space, send_to_full, sent, received}
use Rattle.machine.specs.Check.{Accepted}
use Rattle.machine.specs.Machine.{Decision, decide, effect, after, step}
use Rattle.machine.specs.Machine.{Decision.refused, Decision.looked_up, Decision.sends, Decision.receives, Decision.lists_endpoints, Decision.lists_rights, Decision.grants, Decision.removes, Decision.revokes}
use Rattle.machine.specs.QueueClaims as claims
use Rattle.machine.proofs.Table as table
use Rattle.machine.proofs.Accepted.{accepted-sized, accepted-endpoint, info-of}
use Rattle.machine.proofs.Queue.{endpoint-sound, waiting-most, send_with_space-length, send_with_space-count, send_with_space-other, send_with_space-slot, send_to_full-length, received-length, received-count, received-before, received-moved, received-freed, received-stays, send_to_full-lost-word, send_to_full-count, send_to_full-newcomer, send_to_full-other}
use Rattle.machine.proofs.Step.{InOrder, call-in-order}
use Rattle.machine.proofs.CallClaims.{requires}

-- ---- an endpoint's twelve words in the table, after they are written

module _ (t : List ℕ) (a : Accepted t) (e : ℕ) (l : e < endpoints t) (q : List ℕ) (twelve : length q ≡ 12) where
  -- a word of the endpoint is that of the twelve words
  word-now : (k : ℕ) → k < 12 → get_or (set_endpoint t e q) (endpoint_at (domains t) e + k) 0 ≡ get_or q k 0
  word-now k b =
      let z = accepted-sized t a in
      let t' = set_endpoint t e q in
      ap (λ (n : ℕ). get_or t' (endpoint_at n e + k) 0) (sym (table.set_endpoint-domains t z e q l twelve))
      ∙ sym (table.endpoint-word t' (table.set_endpoint-sized t z e q l twelve) e k b)
      ∙ ap (λ (x : List ℕ). get_or x k 0) (table.set_endpoint-same t z e q l twelve)

  -- a word of the table stays where it is outside the endpoint or the same in the twelve words
  stays : (i : ℕ) → ((k : ℕ) → k < 12 → i ≡ endpoint_at (domains t) e + k → get_or q k 0 ≡ get_or (endpoint t e) k 0) → get_or (set_endpoint t e q) i 0 ≡ get_or t i 0
  stays i same = go (dec_lt i at) (dec_lt i (at + 12))
    where
      at : ℕ
      at = endpoint_at (domains t) e

      go : Dec (i < at) → Dec (i < at + 12) → get_or (set_endpoint t e q) i 0 ≡ get_or t i 0
      go (yes b) _ = table.set_endpoint-before t (accepted-sized t a) e q l twelve i b
      go (no _) (no b) = table.set_endpoint-from t (accepted-sized t a) e q l twelve i (omega arith)
      go (no b) (yes c) =
          let k : ℕ = i - at in
          let place : at + k ≡ i = omega arith in
          let small : k < 12 = omega arith in
          subst (λ (j : ℕ). get_or (set_endpoint t e q) j 0 ≡ get_or t j 0) place
          (word-now k small ∙ same k small (sym place) ∙ table.endpoint-word t (accepted-sized t a) e k small)

-- ---- what a send and a receive leave of twelve words, by words of the table

-- a waiting word, made anew of its count
waiting-word : (w : ℕ) → kind w ≡ 5 → word 5 (payload w) ≡ w
waiting-word w k = omega arith

module _ (t : List ℕ) (a : Accepted t) (e : ℕ) (l : e < endpoints t) where
  abbrev at : ℕ
  at = endpoint_at (domains t) e

  abbrev q : List ℕ
  q = endpoint t e

  twelve : length q ≡ 12
  twelve = table.endpoint-length t (accepted-sized t a) e l

  most : waiting q ≤ 8
  most = waiting-most (domains t) q (accepted-endpoint t a e l)

  word-before : (k : ℕ) → k < 12 → get_or q k 0 ≡ get_or t (at + k) 0
  word-before k b = table.endpoint-word t (accepted-sized t a) e k b

  with-space : (m : ℕ) → waiting q < 8 → claims.SentWithSpace t (set_endpoint t e (send_with_space q m)) at (waiting q) m
  with-space m room =
      let len = send_with_space-length q twelve m in
      record {
        waiting = word-now t a e l (send_with_space q m) len 2 (omega arith) ∙ send_with_space-count q twelve m;
        slot = word-now t a e l (send_with_space q m) len (4 + waiting q) (omega arith) ∙ send_with_space-slot q twelve m room;
        others =
            λ i count slot.
            stays t a e l (send_with_space q m) len i
            (λ k _ place.
            send_with_space-other q twelve m k (λ x. count (place ∙ ap (λ (j : ℕ). at + j) x)) (λ x. slot (place ∙ ap (λ (j : ℕ). at + j) x)));
      }

  module _ (some : waiting q ≢ 0) where
    -- what moves up, by the place of the table that it comes from
    moves : (i : ℕ) → i + 1 < waiting q → get_or (received q) (4 + i) 0 ≡ get_or t (at + (5 + i)) 0
    moves i b =
        let next : 4 + (i + 1) ≡ 5 + i = omega arith in
        received-moved q twelve some most i (omega arith)
        ∙ ap (λ (k : ℕ). get_or q k 0) next
        ∙ word-before (5 + i) (omega (arith, most))

    stays-later : (k : ℕ) → 4 + waiting q ≤ k → get_or (received q) k 0 ≡ get_or q k 0
    stays-later k b =
        let place : 4 + (k - 4) ≡ k = omega arith in
        subst (λ (j : ℕ). get_or (received q) j 0 ≡ get_or q j 0) place (received-stays q twelve some most (k - 4) (omega arith))

    taken_out : claims.TakenOut t (set_endpoint t e (received q)) at (waiting q)
    taken_out =
        let len = received-length q twelve some most in
        let last : 3 + waiting q ≡ 4 + (waiting q - 1) = omega arith in
        record {
          waiting = word-now t a e l (received q) len 2 (omega arith) ∙ received-count q twelve some most;
          moved = λ i b. word-now t a e l (received q) len (4 + i) (omega (arith, most)) ∙ moves i b;
          freed =
              word-now t a e l (received q) len (3 + waiting q) (omega (arith, most))
              ∙ ap (λ (k : ℕ). get_or (received q) k 0) last
              ∙ received-freed q twelve some most;
          before =
              λ i count b.
              stays t a e l (received q) len i
              (λ k _ place. received-before q twelve some most k (λ x. count (place ∙ ap (λ (j : ℕ). at + j) x)) (omega arith));
          later = λ i b. stays t a e l (received q) len i (λ k _ place. stays-later k (omega arith));
        }

    -- the words before the lost count
    early : (m k : ℕ) → k < 3 → get_or (send_to_full q m) k 0 ≡ get_or q k 0
    unfolding waiting
    early m k b =
        ⊎_elim
        (λ x.
        ap (λ (j : ℕ). get_or (send_to_full q m) j 0) x
        ∙ send_to_full-count q twelve some most m
        ∙ waiting-word (get_or q 2 0) (endpoint-sound (domains t) q (accepted-endpoint t a e l)).is_waiting
        ∙ ap (λ (j : ℕ). get_or q j 0) (sym x))
        (λ n.
        send_to_full-other q twelve some most m k n (omega arith) (omega arith)
        ∙ received-before q twelve some most k n (omega arith))
        (table.equal-either k 2)

    to-full : (m : ℕ) → claims.SentToFull t (set_endpoint t e (send_to_full q m)) at (waiting q) (min (lost q + 1) most_lost) m
    to-full m =
        let len = send_to_full-length q twelve some most m in
        record {
          moved =
              λ i b.
              word-now t a e l (send_to_full q m) len (4 + i) (omega (arith, most))
              ∙ send_to_full-other q twelve some most m (4 + i) (omega arith) (omega arith) (omega arith)
              ∙ moves i b;
          newcomer =
              word-now t a e l (send_to_full q m) len (3 + waiting q) (omega (arith, most)) ∙ send_to_full-newcomer q twelve some most m;
          counted = word-now t a e l (send_to_full q m) len 3 (omega arith) ∙ send_to_full-lost-word q twelve some most m;
          before = λ i b. stays t a e l (send_to_full q m) len i (λ k _ place. early m k (omega arith));
          later =
              λ i b.
              stays t a e l (send_to_full q m) len i
              (λ k _ place.
              let far : 4 + waiting q ≤ k = omega arith in
              send_to_full-other q twelve some most m k (omega arith) (omega arith) (omega arith) ∙ stays-later k far);
        }

-- ---- the claims

pub send-with-space : claims.EverySendWithSpace
unfolding step effect after sent has_space
send-with-space t c e m a d space =
    let l = ((requires t c).send e m d).0 in
    let room : waiting (endpoint t e) < 8 = omega (arith, ltb-true (waiting (endpoint t e)) (capacity (endpoint t e)) space, info-of (domains t) (endpoint t e) (accepted-endpoint t a e l)) in
    rw (d, space) (with-space t a e l m room)

pub send-to-full : claims.EverySendToFull
unfolding step effect after sent has_space
send-to-full t c e m a d full =
    let l = ((requires t c).send e m d).0 in
    let some : waiting (endpoint t e) ≢ 0 = λ none. omega (arith, ltb-false (waiting (endpoint t e)) (capacity (endpoint t e)) full, info-of (domains t) (endpoint t e) (accepted-endpoint t a e l)) in
    rw (d, full) (to-full t a e l some m)

pub receive-takes-out : claims.EveryReceiveTakesOut
unfolding step effect after
receive-takes-out t c e a d =
    let shown = (requires t c).receive e d in
    let some : waiting (endpoint t e) ≢ 0 = λ none. omega (arith, shown.1) in
    rw d (taken_out t a e shown.0 some)

pub other-leaves-queue : claims.EveryOtherLeavesQueue
unfolding step effect after
other-leaves-queue t c e a l no_send no_receive = go (decide t c) refl (call-in-order t c a)
  where
    go : (d : Decision) → decide t c ≡ d → InOrder t (effect t d) → endpoint (after t (effect t d)) e ≡ endpoint t e
    go (refused n) _ o = refl
    go (looked_up f) _ o = refl
    go (sends f m) is o =
        ⊎_elim (λ x. absurd (no_send m (rw x is))) (λ x. x)
        (table.set_endpoint-either t (accepted-sized t a) f _ o.0 o.1 e l)
    go (receives f) is o =
        ⊎_elim (λ x. absurd (no_receive (rw x is))) (λ x. x)
        (table.set_endpoint-either t (accepted-sized t a) f _ o.0 o.1 e l)
    go (lists_endpoints u) _ o = refl
    go (lists_rights u) _ o = refl
    go (grants g h r) _ o = table.set_rights-endpoint t (accepted-sized t a) h g _ o.0 o.1 e l
    go (removes g h r) _ o = table.set_rights-endpoint t (accepted-sized t a) h g _ o.0 o.1 e l
    go (revokes g h r) _ o = table.set_rights-endpoint t (accepted-sized t a) h g _ o.0 o.1 e l
