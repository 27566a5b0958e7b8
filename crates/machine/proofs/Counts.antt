-- The counts of an endpoint are conserved by a run, its messages are received in FIFO order, and each call is answered by
-- three words (specs/MachineClaims: EveryRunCountsConserved, EveryRunFifoOrder, EveryRunAnswered). Counts add up over lists
-- that are run one after another.
-- Assumes nothing.
use mathlib.Core.Path.{◌≡◌, refl, sym, ap, subst, ◌∙◌}
use mathlib.Core.Logic.{◌≢◌, ⊎_elim}
use mathlib.Core.Bool.{Bool, true, false, cond, not, ◌&&◌, and-false}
use mathlib.Core.List.{List, [], ◌∷◌, ◌++◌, map, append_assoc, append-nil}
use Prim.Native.Nat.{ℕ, ◌+◌, ◌<◌, ◌≤◌, min}
use native.Mathlib.Omega.{arith}
use borrow.Author.Tests.{eq-eqb, ne_eqb}
use lib.Dec.{eqb}
use lib.ListN.{length}
use Rattle.machine.specs.Word.{kind, most_payload, field_b, answer_code}
use Rattle.machine.specs.Table.{domains, endpoints, endpoint, set_endpoint}
use Rattle.machine.specs.Queue.{waiting, lost, oldest, most_lost, has_space, sent, received}
use Rattle.machine.specs.Check.{endpoint_ok, Accepted}
use Rattle.machine.specs.Call.{Call, Kind, kind_number, one_of, first, kind_of, call_kind, second_payload}
use Rattle.machine.specs.Call.{Kind.look_up, Kind.send, Kind.receive, Kind.my_endpoints, Kind.my_rights, Kind.grant, Kind.remove, Kind.revoke}
use Rattle.machine.specs.Machine.{Decision, decide, effect, after, step, code, data_words, answer_word, answer_to, answer}
use Rattle.machine.specs.Machine.{Decision.refused}
use Rattle.machine.specs.Run.{run, answers}
use Rattle.machine.specs.Counts.{is_send, is_receive, done_on, count_done, messages_from, messages_to, receives_from, sends_to, pushes_out, full_sends, messages}
use Rattle.machine.specs.Counts.{Gone, Gone.taken, Gone.pushed, message_of, taken_of, count_pushed, gone}
use Rattle.machine.specs.MachineClaims.{EveryRunAnswered, EveryRunCountsConserved, EveryRunFifoOrder}
use Rattle.machine.proofs.Table as table
use Rattle.machine.proofs.Table.{Sized}
use Rattle.machine.proofs.Accepted.{accepted-sized, accepted-endpoint}
use Rattle.machine.proofs.Decide.{Number, decide-elim}
use Rattle.machine.proofs.Step.{stays-accepted}
use Rattle.machine.proofs.Queue as queue

-- ---- What one call does to one endpoint's queue q, which it leaves as q'. The two tests say whether it is a send to it or a
-- receive from it, answered 0; shown is the message in the answer.

-- what leaves q by its front by the call, followed by what leaves later
abbrev leaving : Bool → Bool → List ℕ → List Gone → List Gone
leaving sends receives q later =
    cond (sends && not (has_space q)) (pushed (oldest q) ∷ later) (cond receives (taken (oldest q) ∷ later) later)

record Served (sends receives : Bool) (message shown : ℕ) (q q' : List ℕ) : Type 0 where
  balance : cond sends 1 0 + waiting q ≡ cond receives 1 0 + cond (sends && not (has_space q)) 1 0 + waiting q'
  raised : lost q' ≡ min (lost q + cond (sends && not (has_space q)) 1 0) most_lost
  -- in order from after the call on (what leaves later, then what is left, is what waits, then what comes later), hence in
  -- order from before it on
  order : (out : List Gone) (left later : List ℕ) → map message_of out ++ left ≡ messages q' ++ later → map message_of (leaving sends receives q out) ++ left ≡ messages q ++ cond sends (message ∷ later) later
  -- those received are the ones that the answers show, from after the call on, hence from before it on
  shows : (out : List Gone) (later : List ℕ) → later ≡ taken_of out → cond receives (shown ∷ later) later ≡ taken_of (leaving sends receives q out)

untouched : {message shown : ℕ} (q : List ℕ) → Served false false message shown q q
untouched q =
    record { balance = omega arith; raised = omega (arith, queue.lost-small q); order = λ _ _ _ p. p; shows = λ _ _ p. p }

module _ (n : ℕ) (q : List ℕ) (twelve : length q ≡ 12) (ok : endpoint_ok n q ≡ true) where
  most : waiting q ≤ 8
  most = queue.waiting-most n q ok

  served-send : {shown : ℕ} (m : ℕ) → m ≤ most_payload → Served true false m shown q (sent q m)
  unfolding message_of taken_of
  served-send {shown} m small =
      queue.sent-elim n q twelve ok m (Served true false m shown q)
      (λ b w.
      record {
        balance = rw (b, queue.send_with_space-waiting q twelve m w) (omega arith);
        raised = rw (b, queue.send_with_space-lost q twelve m) (omega (arith, queue.lost-small q));
        order = λ _ _ later p. rw b (p ∙ ap (λ (x : List ℕ). x ++ later) (queue.send_with_space-messages q twelve m small w) ∙ last later);
        shows = λ _ _ p. rw b p;
      })
      (λ b some.
      record {
        balance = rw (b, queue.send_to_full-waiting q twelve some most m) (omega arith);
        raised = rw b (queue.send_to_full-lost q twelve some most m);
        order =
            λ _ _ later p.
            rw b
            (ap (λ (x : List ℕ). oldest q ∷ x) p
            ∙ ap (λ (x : List ℕ). x ++ later) (queue.send_to_full-messages q twelve some most m small)
            ∙ last later);
        shows = λ _ _ p. rw b p;
      })
    where
      last : (later : List ℕ) → (messages q ++ (m ∷ [])) ++ later ≡ messages q ++ (m ∷ later)
      last later = append_assoc (messages q) (m ∷ []) later

  served-receive : {m : ℕ} → waiting q ≢ 0 → Served false true m (oldest q) q (received q)
  unfolding message_of taken_of
  served-receive some =
      record {
        balance = rw (queue.received-waiting q twelve some most) (omega arith);
        raised = rw (queue.received-lost q twelve some most) (omega (arith, queue.lost-small q));
        order =
            λ _ _ later p.
            ap (λ (x : List ℕ). oldest q ∷ x) p
            ∙ ap (λ (x : List ℕ). x ++ later) (queue.received-messages q twelve some most);
        shows = λ _ _ p. ap (λ (x : List ℕ). oldest q ∷ x) p;
      }

-- ---- which calls are done on the endpoint e, by their answers

-- an answer's code can be read back
answer-code : (c : Call) (n : ℕ) → n < 65536 → answer_code (answer_word c n) ≡ n
unfolding answer_word
answer-code c n h = omega arith

module _ (t : List ℕ) (e : ℕ) (c : Call) where
  -- a call is done on e when its kind, its field B and its code say so
  done-by : (d : Decision) (k : Kind) (here zero : Bool) → call_kind c ≡ k → eqb (field_b (first c)) e ≡ here → code d < 65536 → eqb (code d) 0 ≡ zero → (is : Kind → Bool) → done_on is e c (answer_to t c d) ≡ (is k && here && zero)
  unfolding done_on answer_to
  done-by d k here zero p q l r is = cc (answer-code c (code d) l)

  not_done : (n : ℕ) → Number n → (is : Kind → Bool) → done_on is e c (answer_to t c (refused n)) ≡ false
  unfolding code
  not_done n r is =
      done-by (refused n) _ _ false refl refl (omega arith) (ne_eqb n 0 (omega arith)) is
      ∙ and-false (is (call_kind c) && eqb (field_b (first c)) e)

  -- a call's kind, by the kind of its first word
  by_number : {i : ℕ} → kind (first c) ≡ i → call_kind c ≡ kind_of i
  unfolding call_kind
  by_number k = ap kind_of k

  -- what the call does to e's queue where the decision on it is d
  abbrev ServedBy : Decision → List ℕ → Type 0
  ServedBy d q' =
      Served (done_on is_send e c (answer_to t c d)) (done_on is_receive e c (answer_to t c d)) (second_payload c) (data_words t d).0 (endpoint t e) q'

  served-by : (d : Decision) (k : Kind) (here : Bool) {q' : List ℕ} → call_kind c ≡ k → eqb (field_b (first c)) e ≡ here → code d ≡ 0 → Served (is_send k && here && true) (is_receive k && here && true) (second_payload c) (data_words t d).0 (endpoint t e) q' → ServedBy d q'
  served-by d k here p q r s =
      let l : code d < 65536 = omega arith in
      rw (done-by d k here true p q l (eq-eqb _ _ r) is_send, done-by d k here true p q l (eq-eqb _ _ r) is_receive) s

  -- a call that is neither a send nor a receive, and leaves e's queue
  idle : (d : Decision) (k : Kind) {q' : List ℕ} → call_kind c ≡ k → is_send k ≡ false → is_receive k ≡ false → code d ≡ 0 → q' ≡ endpoint t e → ServedBy d q'
  idle d k p no_send no_receive r same = served-by d k _ p refl r (rw (no_send, no_receive, same) (untouched (endpoint t e)))

  module _ (a : Accepted t) (le : e < endpoints t) where
    sized : Sized t
    sized = accepted-sized t a

    twelve : (f : ℕ) → f < endpoints t → length (endpoint t f) ≡ 12
    twelve f l = table.endpoint-length t sized f l

    -- twelve words are written to the endpoint of field B: e is served if it is that one
    served-at : (d : Decision) (k : Kind) (w : List ℕ) → call_kind c ≡ k → code d ≡ 0 → field_b (first c) < endpoints t → length w ≡ 12 → Served (is_send k && true && true) (is_receive k && true && true) (second_payload c) (data_words t d).0 (endpoint t (field_b (first c))) w → ServedBy d (endpoint (set_endpoint t (field_b (first c)) w) e)
    served-at d k w p r l long s =
        ⊎_elim
        (λ x.
        served-by d k true p (eq-eqb f e x) r
        (subst (λ (i : ℕ). Served (is_send k && true && true) (is_receive k && true && true) (second_payload c) (data_words t d).0 (endpoint t i) (endpoint (set_endpoint t f w) i)) x
        (rw (table.set_endpoint-same t sized f w l long) s)))
        (λ x.
        served-by d k false p (ne_eqb f e x) r
        (rw (and-false (is_send k), and-false (is_receive k), table.set_endpoint-other t sized f w l long e le (λ y. x (sym y))) (untouched (endpoint t e))))
        (table.equal-either f e)
      where
        f : ℕ
        f = field_b (first c)

    served : ServedBy (decide t c) (endpoint (step t c) e)
    unfolding step effect after code data_words kind_of is_send is_receive one_of kind_number
    served =
        decide-elim t c (λ d. ServedBy d (endpoint (after t (effect t d)) e))
        (record {
          refuses = λ n r. rw (not_done n r is_send, not_done n r is_receive) (untouched (endpoint t e));
          looks_up = λ _ k _ _. idle _ look_up (by_number k) refl refl refl refl;
          sending =
              λ _ k l _.
              let ok = accepted-endpoint t a (field_b (first c)) l in
              served-at _ send _ (by_number k) refl l (queue.sent-length (domains t) _ (twelve _ l) ok _)
              (served-send (domains t) _ (twelve _ l) ok (second_payload c) (queue.message-small c));
          receiving =
              λ _ k l _ some.
              let ok = accepted-endpoint t a (field_b (first c)) l in
              served-at _ receive _ (by_number k) refl l (queue.received-length _ (twelve _ l) some (queue.waiting-most (domains t) _ ok))
              (served-receive (domains t) _ (twelve _ l) ok some);
          endpoints_listed = λ _ k. idle _ my_endpoints (by_number k) refl refl refl refl;
          rights_listed = λ _ k. idle _ my_rights (by_number k) refl refl refl refl;
          granting = λ _ k g h _ _ _ _. idle _ grant (by_number k) refl refl refl (table.set_rights-endpoint t sized _ _ _ h g e le);
          removing = λ u k g _ _. idle _ remove (by_number k) refl refl refl (table.set_rights-endpoint t sized _ _ _ u.below g e le);
          revoking = λ _ k g h _ _. idle _ revoke (by_number k) refl refl refl (table.set_rights-endpoint t sized _ _ _ h g e le);
        })

-- ---- the run of a list, call by call
still-below : (t : List ℕ) (c : Call) → Accepted t → (e : ℕ) → e < endpoints t → e < endpoints (step t c)
still-below t c a e l = rw (stays-accepted t c a).frame.same_endpoints l

pub counts-conserved : EveryRunCountsConserved
unfolding run count_done full_sends pushes_out sends_to done_on answers answer answer_to
counts-conserved t [] rest a e l = record { balance = omega arith; raised = omega (arith, queue.lost-small (endpoint t e)) }
counts-conserved t (c ∷ cs) rest a e l =
    let s = served t e c a l in
    let later = counts-conserved (step t c) cs rest (stays-accepted t c a).accepted e (still-below t c a e l) in
    record {
      balance = omega (arith, s.balance, later.balance);
      raised = omega (arith, s.raised, later.raised);
    }

-- one more is pushed out, received, or neither
pushed_more : (pushes receives : Bool) (m n : ℕ) (out : List Gone) → n ≡ count_pushed out → cond pushes 1 0 + n ≡ count_pushed (cond pushes (pushed m ∷ out) (cond receives (taken m ∷ out) out))
unfolding count_pushed
pushed_more true receives m n out p = ap (λ (k : ℕ). 1 + k) p
pushed_more false true m n out p = omega arith
pushed_more false false m n out p = omega arith

-- as many as sends found the queue full
pushed-full : (e : ℕ) (t : List ℕ) (cs : List Call) → full_sends e t cs ≡ count_pushed (gone e t cs)
unfolding gone count_pushed full_sends
pushed-full e t [] = refl
pushed-full e t (c ∷ cs) =
    pushed_more (pushes_out e t c) (receives_from e t c) (oldest (endpoint t e)) _ (gone e (step t c) cs) (pushed-full e (step t c) cs)

pub fifo-order : EveryRunFifoOrder
unfolding run messages_from messages_to gone taken_of count_pushed pushes_out receives_from sends_to done_on answers answer answer_to
fifo-order t [] rest a e l =
    record {
      order = sym (append-nil (messages (endpoint t e)));
      received = refl;
      pushed_out = omega (arith, queue.lost-small (endpoint t e));
    }
fifo-order t (c ∷ cs) rest a e l =
    let s = served t e c a l in
    let later = fifo-order (step t c) cs rest (stays-accepted t c a).accepted e (still-below t c a e l) in
    record {
      order = s.order _ _ _ later.order;
      received = s.shows _ _ later.received;
      pushed_out = omega (arith, (counts-conserved t (c ∷ cs) rest a e l).raised, pushed-full e t (c ∷ cs));
    }

-- ---- the call total
pub answers-length : EveryRunAnswered
unfolding answers answer answer_to
answers-length t [] = refl
answers-length t (c ∷ cs) = let later = answers-length (step t c) cs in omega arith

-- ---- lists run one after another
pub run-append : (t : List ℕ) (cs ds : List Call) → run t (cs ++ ds) ≡ run (run t cs) ds
unfolding run
run-append t [] ds = refl
run-append t (c ∷ cs) ds = run-append (step t c) cs ds

pub answers-append : (t : List ℕ) (cs ds : List Call) → answers t (cs ++ ds) ≡ answers t cs ++ answers (run t cs) ds
unfolding run answers
answers-append t [] ds = refl
answers-append t (c ∷ cs) ds =
    ap (λ (x : List ℕ). answer t c ++ x) (answers-append (step t c) cs ds)
    ∙ sym (append_assoc (answer t c) (answers (step t c) cs) (answers (run (step t c) cs) ds))

pub count-append : (is : Kind → Bool) (e : ℕ) (t : List ℕ) (cs ds : List Call) (rest : List ℕ) → count_done is e (cs ++ ds) (answers t cs ++ rest) ≡ count_done is e cs (answers t cs) + count_done is e ds rest
unfolding count_done done_on answers answer answer_to
count-append is e t [] ds rest = omega arith
count-append is e t (c ∷ cs) ds rest = let later = count-append is e (step t c) cs ds rest in omega arith

pub full-append : (e : ℕ) (t : List ℕ) (cs ds : List Call) → full_sends e t (cs ++ ds) ≡ full_sends e t cs + full_sends e (run t cs) ds
unfolding full_sends run
full-append e t [] ds = omega arith
full-append e t (c ∷ cs) ds = let rest = full-append e (step t c) cs ds in omega arith
