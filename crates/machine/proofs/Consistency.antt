-- Output consistency: the decision on a call, and its answer, depend only on its own words, its caller's part and the
-- unchanging parts (specs/MachineClaims: EveryCallAnswerDepends).
-- Assumes nothing.
use mathlib.Core.Path.{◌≡◌, refl, sym, ap, ap₂, subst, ◌∙◌}
use mathlib.Core.Bool.{Bool, true, false, cond, not, ◌&&◌, ◌||◌}
use mathlib.Core.List.{List, [], ◌∷◌}
use Prim.Native.Nat.{ℕ, ◌+◌, ◌*◌, ◌^◌, ◌<◌}
use borrow.Author.Tests.{ltb-true, eqb-true, not-false}
use lib.Dec.{eqb, ltb}
use lib.ListN.{get_or}
use Rattle.machine.specs.Word.{kind, payload, caller, field_a, field_b, field_c}
use Rattle.machine.specs.Right.{SEND, GRANT, REMOVE, REVOKE, holds, has_any}
use Rattle.machine.specs.Table.{domains, endpoints, rights_word, rights, endpoint}
use Rattle.machine.specs.Queue.{name, owner, waiting, lost, oldest}
use Rattle.machine.specs.Check.{Accepted}
use Rattle.machine.specs.Call.{Call, Kind, first, call_kind, second_payload}
use Rattle.machine.specs.Call.{Kind.look_up, Kind.send, Kind.receive, Kind.my_endpoints, Kind.my_rights, Kind.grant, Kind.remove, Kind.revoke}
use Rattle.machine.specs.Machine.{Decision, may_send, named, decide, owned_bits, rights_bits, code, data_words, answer_word, answer_to, answer}
use Rattle.machine.specs.Guards.{place, look_up_places, send_places, receive_places, rights_places, grant_places, revoke_places, remove_places, framed, places}
use Rattle.machine.specs.Influence.{reaches, influences}
use Rattle.machine.specs.SameParts.{SameFrame, SamePart}
use Rattle.machine.specs.MachineClaims.{EveryCallAnswerDepends}
use Rattle.machine.proofs.Bools.{cond_same, and_left, and_right}
use Rattle.machine.proofs.Below.{first-same, sum_same}
use Rattle.machine.proofs.Accepted.{accepted-owner}
use Rattle.machine.proofs.Queue.{name-kept, owner-kept}
use Rattle.machine.proofs.Frame.{whole, rights_of-word}
use Rattle.machine.proofs.KindCases.{kind-elim}
use Rattle.machine.proofs.Places.{decide-places}
use Rattle.machine.proofs.Decide.{Known, calls_back, decide-elim}

-- equal tests and, where they pass, equal rests make equal places
pub place_same : {b b' : Bool} (n : ℕ) {x y : Decision} → b ≡ b' → (b' ≡ false → x ≡ y) → place b n x ≡ place b' n y
unfolding place
place_same {b} {b'} n {x} {y} e f = ap (λ (z : Bool). place z n x) e ∙ go b' f
  where
    go : (z : Bool) → (z ≡ false → x ≡ y) → place z n x ≡ place z n y
    go true g = refl
    go false g = g refl

module _ (s t : List ℕ) (f : SameFrame s t) where
  pub owner-same : (e : ℕ) → e < endpoints t → owner (endpoint s e) ≡ owner (endpoint t e)
  owner-same e l = owner-kept (endpoint s e) (endpoint t e) (f.identity e l)

  pub name-same : (e : ℕ) → e < endpoints t → name (endpoint s e) ≡ name (endpoint t e)
  name-same e l = name-kept (endpoint s e) (endpoint t e) (f.identity e l)

  -- the same part of v: the rights it holds, and the endpoints it owns
  module _ (v : ℕ) (p : SamePart v s t) where
    pub row_same : (g : ℕ) → g < domains t → rights_word s v g ≡ rights_word t v g
    row_same g l =
        sym (rights_of-word s v g (subst (λ (n : ℕ). g < n) (sym f.same_domains) l))
        ∙ ap (λ (x : List ℕ). get_or x g 0) p.rights
        ∙ rights_of-word t v g l

    pub rights-same : (g : ℕ) → g < domains t → rights s v g ≡ rights t v g
    unfolding rights
    rights-same g l = ap payload (row_same g l)

    pub owned-same : (e : ℕ) → e < endpoints t → owner (endpoint t e) ≡ v → endpoint s e ≡ endpoint t e
    owned-same e l o = whole (endpoint s e) (endpoint t e) (f.identity e l) (p.queues e l o)

  module _ (a : Accepted t) (c : Call) (mine : Known t c → SamePart (caller (first c)) s t) where
    abbrev u : ℕ
    u = caller (first c)

    -- the places 12 to 14, then the kind's own
    framed-same : (k : Kind) (i : ℕ) {x y : Decision} → kind (first c) ≡ i → eqb i 15 ≡ false → (Known t c → x ≡ y) → framed s c k x ≡ framed t c k y
    unfolding framed
    framed-same k i e n next =
        place_same 12 (ap (λ (m : ℕ). not (ltb u m)) f.same_domains)
        (λ below.
        place_same 13 refl
        (λ _. place_same 14 refl (λ _. next (record { called_by = calls_back i c e n; below = ltb-true _ _ (not-false _ below) }))))

    named-same : (x : ℕ) → named s x ≡ named t x
    unfolding named
    named-same x =
        rw f.same_endpoints (first-same (endpoints t) _ _ (λ e l. ap (λ (y : ℕ). eqb y x) (name-same e l)))

    may_send-same : Known t c → (e : ℕ) → e < endpoints t → may_send s u e ≡ may_send t u e
    unfolding may_send
    may_send-same k e l =
        ap (λ (o : ℕ). holds (rights s u o) SEND) (owner-same e l)
        ∙ ap (λ (r : ℕ). holds r SEND) (rights-same u (mine k) (owner (endpoint t e)) (accepted-owner t a e l))

    send-same : Known t c → (e m : ℕ) → send_places s u e m ≡ send_places t u e m
    unfolding send_places
    send-same k e m =
        place_same 16 (ap (λ (n : ℕ). not (ltb e n)) f.same_endpoints)
        (λ b. place_same 17 (ap not (may_send-same k e (ltb-true _ _ (not-false _ b)))) (λ _. refl))

    receive-same : Known t c → (e : ℕ) → receive_places s u e ≡ receive_places t u e
    unfolding receive_places
    receive-same k e =
        place_same 16 (ap (λ (n : ℕ). not (ltb e n)) f.same_endpoints)
        (λ b.
        let l : e < endpoints t = ltb-true _ _ (not-false _ b) in
        place_same 18 (ap (λ (o : ℕ). not (eqb o u)) (owner-same e l))
        (λ o.
        place_same 19
        (ap (λ (q : List ℕ). eqb (waiting q) 0) (owned-same u (mine k) e l (eqb-true _ _ (not-false _ o))))
        (λ _. refl)))

    -- 20 to 23 of a grant and of a revoke, which test what the caller may do by its rights on the target
    rights-places-same : Known t c → (g h r : ℕ) (may : ℕ → Bool) (row : Decision) → rights_places s u g h r (may (rights s u g)) row ≡ rights_places t u g h r (may (rights t u g)) row
    unfolding rights_places influences reaches
    rights-places-same k g h r may row =
        place_same 20 (ap (λ (n : ℕ). not (ltb g n && ltb h n)) f.same_domains)
        (λ b.
        let both = not-false (ltb g (domains t) && ltb h (domains t)) b in
        let lg : g < domains t = ltb-true _ _ (and_left (ltb g (domains t)) (ltb h (domains t)) both) in
        let lh : h < domains t = ltb-true _ _ (and_right (ltb g (domains t)) (ltb h (domains t)) both) in
        place_same 21 refl
        (λ _.
        place_same 22 (ap (λ (x : ℕ). not (may x)) (rights-same u (mine k) g lg))
        (λ _.
        place_same 23 (ap (λ (x : ℕ). not (eqb u h || has_any x)) (rights-same u (mine k) h lh)) (λ _. refl))))

    grant-same : Known t c → (g h r : ℕ) → grant_places s u g h r ≡ grant_places t u g h r
    unfolding grant_places
    grant-same k g h r = rights-places-same k g h r (λ x. holds x GRANT && holds x r) _

    revoke-same : Known t c → (g h r : ℕ) → revoke_places s u g h r ≡ revoke_places t u g h r
    unfolding revoke_places
    revoke-same k g h r = rights-places-same k g h r (λ x. holds x REVOKE) _

    remove-same : Known t c → (g r : ℕ) → remove_places s u g r ≡ remove_places t u g r
    unfolding remove_places
    remove-same k g r =
        place_same 20 (ap (λ (n : ℕ). not (ltb g n)) f.same_domains)
        (λ b.
        place_same 21 refl
        (λ _.
        place_same 22
        (ap (λ (x : ℕ). not (holds x REMOVE && holds x r)) (rights-same u (mine k) g (ltb-true _ _ (not-false _ b))))
        (λ _. refl)))

    -- the decision on a call is the same on both tables
    pub decide-same : decide s c ≡ decide t c
    unfolding places call_kind
    decide-same =
        decide-places s c
        ∙ kind-elim (kind (first c)) (λ k. places s c k ≡ places t c k)
        (λ e. framed-same look_up 1 e refl (λ k. ap look_up_places (named-same (second_payload c))))
        (λ e. framed-same send 2 e refl (λ k. send-same k (field_b (first c)) (second_payload c)))
        (λ e. framed-same receive 3 e refl (λ k. receive-same k (field_b (first c))))
        (λ e. framed-same my_endpoints 4 e refl (λ _. refl))
        (λ e. framed-same my_rights 5 e refl (λ _. refl))
        (λ e. framed-same grant 6 e refl (λ k. grant-same k (field_a (first c)) (field_b (first c)) (field_c (first c))))
        (λ e. framed-same remove 7 e refl (λ k. remove-same k (field_a (first c)) (field_c (first c))))
        (λ e. framed-same revoke 8 e refl (λ k. revoke-same k (field_a (first c)) (field_b (first c)) (field_c (first c))))
        (λ _. refl)
        refl
        ∙ sym (decide-places t c)

    owned-bits-same : (v : ℕ) → owned_bits s v ≡ owned_bits t v
    unfolding owned_bits
    owned-bits-same v =
        rw f.same_endpoints
        (sum_same (endpoints t) _ _ (λ e l. ap (λ (o : ℕ). cond (eqb o v) (2 ^ e) 0) (owner-same e l)))

    rights-bits-same : (v : ℕ) → SamePart v s t → (g : ℕ) → rights_bits s v g ≡ rights_bits t v g
    unfolding rights_bits
    rights-bits-same v p g =
        sum_same 8 _ _
        (λ i _.
        ap (λ (x : ℕ). x * 16 ^ i)
        (cond_same 0 (ap (λ (n : ℕ). ltb (g + i) n) f.same_domains) (λ l. rights-same v p (g + i) (ltb-true _ _ l))))

    -- and so is its answer
    pub answer-same : answer s c ≡ answer t c
    unfolding answer answer_to code data_words
    answer-same =
        ap (answer_to s c) decide-same
        ∙ decide-elim t c (λ d. answer_to s c d ≡ answer_to t c d)
        (record {
          refuses = λ _ _. refl;
          looks_up = λ _ _ _ _. refl;
          sending = λ _ _ _ _. refl;
          receiving =
              λ k _ l o _.
              ap (λ (q : List ℕ). answer_word c 0 ∷ oldest q ∷ lost q ∷ []) (owned-same u (mine k) (field_b (first c)) l o);
          endpoints_listed = λ _ _. ap (λ (x : ℕ). answer_word c 0 ∷ x ∷ 0 ∷ []) (owned-bits-same u);
          rights_listed =
              λ k _.
              ap₂ (λ (x y : ℕ). answer_word c 0 ∷ x ∷ y ∷ []) (rights-bits-same u (mine k) 0) (rights-bits-same u (mine k) 8);
          granting = λ _ _ _ _ _ _ _ _. refl;
          removing = λ _ _ _ _ _. refl;
          revoking = λ _ _ _ _ _ _. refl;
        })

-- A call's answer depends only on its own words, its caller's part and the unchanging parts.
pub answer-depends : EveryCallAnswerDepends
answer-depends s t c a f mine = answer-same s t f a c (λ k. mine (caller (first c)) k.called_by k.below)
