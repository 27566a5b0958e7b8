-- What a call does to a table: it keeps it accepted and its unchanging parts, and alters only what belongs to domains that
-- its caller influences (specs/MachineClaims). Local respect and step consistency are proved here.
-- Assumes nothing.
use mathlib.Core.Path.{◌≡◌, refl, sym, ap, ap₂, subst, ◌∙◌}
use mathlib.Core.Bool.{true, false, ◌&&◌, true≢false}
use mathlib.Core.List.{List, [], ◌∷◌}
use mathlib.Core.Logic.{⊎_elim}
use mathlib.Core.Option.{Option, none, some}
use Prim.Native.Nat.{ℕ, ◌<◌, ◌≤◌}
use native.Mathlib.Nat.{le_trans}
use native.Mathlib.Omega.{arith}
use borrow.Author.Tests.{lt-ltb, eq-eqb}
use lib.Dec.{eqb, ltb}
use lib.ListN.{length, take, drop}
use Rattle.machine.specs.Word.{payload, word, caller, field_a, field_b, field_c}
use Rattle.machine.specs.Right.{SEND, GRANT, REMOVE, REVOKE, all_rights, holds, adds, without, has_any}
use Rattle.machine.specs.Table.{domains, endpoints, rights_word, rights, endpoint, set_rights, set_endpoint}
use Rattle.machine.specs.Queue.{name, owner, sent, received}
use Rattle.machine.specs.Check.{rights_word_ok, endpoint_ok, Accepted}
use Rattle.machine.specs.Call.{Call, first, caller_of, second_payload}
use Rattle.machine.specs.Machine.{Decision, Effect, may_send, decide, effect, after, step}
use Rattle.machine.specs.Machine.{Decision.refused, Effect.nothing, Effect.new_rights, Effect.new_endpoint}
use Rattle.machine.specs.Run.{run}
use Rattle.machine.specs.Influence.{reaches, influences}
use Rattle.machine.specs.SameParts.{SameFrame, SamePart, Agree}
use Rattle.machine.specs.MachineClaims.{caller_influences, EveryCallStaysAccepted, EveryCallAltersOnly, EveryRunStaysAccepted}
use Rattle.machine.proofs.Bools.{and_intro, or_right}
use Rattle.machine.proofs.Table as table
use Rattle.machine.proofs.Table.{Sized}
use Rattle.machine.proofs.Right.{adds-within, without-le, rights-word-ok, rights-within, holds-any}
use Rattle.machine.proofs.Accepted.{accepted-sized, accepted-rights, accepted-endpoint, accepted-like}
use Rattle.machine.proofs.Queue.{name-kept, owner-kept, sent-length, sent-identity, sent-ok, received-length, received-identity, received-ok, waiting-most, message-small}
use Rattle.machine.proofs.Consistency.{row_same, owned-same, decide-same}
use Rattle.machine.proofs.Frame.{frame-refl, frame-trans, rights_of-ext}
use Rattle.machine.proofs.Decide.{Known, decide-elim}

-- a rights word holds a set of rights
pub rights-held : (t : List ℕ) → Accepted t → (h g : ℕ) → h < domains t → g < domains t → rights t h g ≤ all_rights
unfolding rights
rights-held t a h g p q = rights-within (rights_word t h g) (accepted-rights t a h g p q)

-- What an effect writes is in order: within the table, a set of rights, an endpoint that keeps its name and info.
abbrev pub InOrder : List ℕ → Effect → Type 0
InOrder t nothing = Unit {0}
InOrder t (new_rights h g s) = (h < domains t) × (g < domains t) × (s ≤ all_rights)
InOrder t (new_endpoint e q) =
    (e < endpoints t) × (length q ≡ 12) × (take 2 q ≡ take 2 (endpoint t e)) × (endpoint_ok (domains t) q ≡ true)

-- what the words written keep, the endpoint keeps, and so does every other
endpoint-kept : {X : Type 0} (t : List ℕ) → Accepted t → (e : ℕ) (q : List ℕ) (f : List ℕ → X) → InOrder t (new_endpoint e q) → (k : ℕ) → k < endpoints t → f q ≡ f (endpoint t e) → f (endpoint (set_endpoint t e q) k) ≡ f (endpoint t k)
endpoint-kept t a e q f o k l same =
    ⊎_elim
    (λ p.
    subst (λ (i : ℕ). f (endpoint (set_endpoint t e q) i) ≡ f (endpoint t i)) (sym p)
    (ap f (table.set_endpoint-same t (accepted-sized t a) e q o.0 o.1) ∙ same))
    (ap f)
    (table.set_endpoint-either t (accepted-sized t a) e q o.0 o.1 k l)

-- an effect keeps the unchanging parts
pub after_frame : (t : List ℕ) → Accepted t → (x : Effect) → InOrder t x → SameFrame (after t x) t
unfolding after
after_frame t a nothing o = frame-refl t
after_frame t a (new_rights h g s) o =
    let z = accepted-sized t a in
    record {
      size = table.set_rights-length t z h g s o.0 o.1;
      same_domains = table.set_rights-domains t z h g s o.0 o.1;
      same_endpoints = table.set_rights-endpoints t z h g s o.0 o.1;
      identity = λ e l. ap (take 2) (table.set_rights-endpoint t z h g s o.0 o.1 e l);
    }
after_frame t a (new_endpoint e q) o =
    let z = accepted-sized t a in
    record {
      size = table.set_endpoint-length t z e q o.0 o.1;
      same_domains = table.set_endpoint-domains t z e q o.0 o.1;
      same_endpoints = table.set_endpoint-endpoints t z e q o.0 o.1;
      identity = λ f l. endpoint-kept t a e q (take 2) o f l o.2;
    }

-- an effect keeps a table accepted
pub after-accepted : (t : List ℕ) → Accepted t → (x : Effect) → InOrder t x → Accepted (after t x)
unfolding after
after-accepted t a nothing o = a
after-accepted t a (new_rights h g s) o =
    accepted-like t (set_rights t h g s) a (table.set_rights-length t z h g s o.0 o.1) (table.set_rights-header t z h g s o.0 o.1)
    (λ h' g' p q.
    ⊎_elim
    (λ x.
    ap₂ (λ (i j : ℕ). rights_word_ok (rights_word (set_rights t h g s) i j)) x.0 x.1
    ∙ ap rights_word_ok (table.set_rights-same t z h g s o.0 o.1)
    ∙ rights-word-ok s o.2)
    (λ x. ap rights_word_ok x ∙ accepted-rights t a h' g' p q)
    (table.set_rights-either t z h g s o.0 o.1 h' g' q))
    (λ e l. ap (endpoint_ok (domains t)) (table.set_rights-endpoint t z h g s o.0 o.1 e l) ∙ accepted-endpoint t a e l)
    (λ e l. ap name (table.set_rights-endpoint t z h g s o.0 o.1 e l))
  where
    z : Sized t
    z = accepted-sized t a
after-accepted t a (new_endpoint e q) o =
    accepted-like t (set_endpoint t e q) a (table.set_endpoint-length t z e q o.0 o.1) (table.set_endpoint-header t z e q o.0 o.1)
    (λ h g p r. ap rights_word_ok (table.set_endpoint-rights t z e q o.0 o.1 h g p r) ∙ accepted-rights t a h g p r)
    (λ f l.
    endpoint-kept t a e q (endpoint_ok (domains t)) o f l (o.3 ∙ sym (accepted-endpoint t a e o.0))
    ∙ accepted-endpoint t a f l)
    (λ f l. endpoint-kept t a e q name o f l (name-kept q (endpoint t e) o.2))
  where
    z : Sized t
    z = accepted-sized t a

-- An effect spares v: it writes neither v's part nor a right on v.
abbrev pub Spares : List ℕ → Effect → ℕ → Type 0
Spares t nothing v = Unit {0}
Spares t (new_rights h g s) v = (h ≡ v → ⊥) × (g ≡ v → ⊥)
Spares t (new_endpoint e q) v = owner (endpoint t e) ≡ v → ⊥

module _ (t : List ℕ) (a : Accepted t) (v : ℕ) (lv : v < domains t) where
  z : Sized t
  z = accepted-sized t a

  pub after-part : (x : Effect) → InOrder t x → Spares t x v → SamePart v (after t x) t
  unfolding after
  after-part nothing o n = record { rights = refl; queues = λ e l w. refl }
  after-part (new_rights h g s) o n =
      record {
        rights =
            rights_of-ext (set_rights t h g s) t (table.set_rights-sized t z h g s o.0 o.1) z
            (table.set_rights-domains t z h g s o.0 o.1) v lv
            (λ k l. table.set_rights-other t z h g s o.0 o.1 v k l (λ x _. n.0 (sym x)));
        queues = λ e l w. ap (drop 2) (table.set_rights-endpoint t z h g s o.0 o.1 e l);
      }
  after-part (new_endpoint e q) o n =
      record {
        rights =
            rights_of-ext (set_endpoint t e q) t (table.set_endpoint-sized t z e q o.0 o.1) z
            (table.set_endpoint-domains t z e q o.0 o.1) v lv
            (λ k l. table.set_endpoint-rights t z e q o.0 o.1 v k lv l);
        queues =
            λ f l w.
            ap (drop 2)
            (table.set_endpoint-other t z e q o.0 o.1 f l (λ x. n (ap (λ (i : ℕ). owner (endpoint t i)) (sym x) ∙ w)));
      }

  pub after-column : (x : Effect) → InOrder t x → Spares t x v → (u : ℕ) → u < domains t → rights_word (after t x) u v ≡ rights_word t u v
  unfolding after
  after-column nothing o n u l = refl
  after-column (new_rights h g s) o n u l = table.set_rights-other t z h g s o.0 o.1 u v lv (λ _ y. n.1 (sym y))
  after-column (new_endpoint e q) o n u l = table.set_endpoint-rights t z e q o.0 o.1 u v l lv

  pub after-agrees : (x : Effect) → InOrder t x → Spares t x v → Agree v (after t x) t
  after-agrees x o n = record { part = after-part x o n; on_it = after-column x o n }

-- A domain that may act on another influences it: as the domain itself, by a right on it, by a send to its endpoint.
module _ (t : List ℕ) (u : ℕ) where
  by_itself : influences t u u ≡ true
  unfolding influences
  by_itself = rw (eq-eqb u u refl)

  by_right : (g r : ℕ) → (r ≡ 0 → ⊥) → holds (rights t u g) r ≡ true → influences t u g ≡ true
  unfolding influences reaches
  by_right g r ne h = or_right (eqb u g) (has_any (rights t u g)) (holds-any _ r ne h)

  by-send : (e : ℕ) → may_send t u e ≡ true → influences t u (owner (endpoint t e)) ≡ true
  unfolding may_send
  by-send e h = by_right (owner (endpoint t e)) SEND (λ z. omega arith) h

-- v, which a known caller doesn't influence, is none of those that it influences
not-influenced : (t : List ℕ) (c : Call) (v x : ℕ) → caller_influences t (caller_of c) v ≡ false → Known t c → influences t (caller (first c)) x ≡ true → x ≡ v → ⊥
not-influenced t c v x n k h w =
    let u = caller (first c) in
    let f : (ltb u (domains t) && influences t u v) ≡ false = sym (ap (λ (o : Option ℕ). caller_influences t o v) k.called_by) ∙ n in
    true≢false (sym (and_intro (lt-ltb u (domains t) k.below) (rw (← w) h)) ∙ f)

-- Local respect: what a call does spares every domain that its caller doesn't influence.
pub call-spares : (t : List ℕ) (c : Call) (v : ℕ) → caller_influences t (caller_of c) v ≡ false → Spares t (effect t (decide t c)) v
unfolding effect
call-spares t c v n =
    let u = caller (first c) in
    let spared : (x : ℕ) → Known t c → influences t u x ≡ true → x ≡ v → ⊥ = λ x. not-influenced t c v x n in
    decide-elim t c (λ d. Spares t (effect t d) v)
    (record {
      refuses = λ _ _. tt;
      looks_up = λ _ _ _ _. tt;
      sending = λ k _ _ m. spared _ k (by-send t u _ m);
      receiving = λ k _ _ o _ w. spared u k (by_itself t u) (sym o ∙ w);
      endpoints_listed = λ _ _. tt;
      rights_listed = λ _ _. tt;
      granting =
          λ k _ _ _ _ hg _ m.
          (spared _ k m, spared _ k (by_right t u _ GRANT (λ z. omega arith) hg));
      removing =
          λ k _ _ hr _.
          (spared u k (by_itself t u), spared _ k (by_right t u _ REMOVE (λ z. omega arith) hr));
      revoking =
          λ k _ _ _ hr m.
          (spared _ k m, spared _ k (by_right t u _ REVOKE (λ z. omega arith) hr));
    })

-- agreeing on v, from what is equal word by word
agree_of : (s t : List ℕ) → Sized s → Sized t → domains s ≡ domains t → (v : ℕ) → v < domains t → ((g : ℕ) → g < domains t → rights_word s v g ≡ rights_word t v g) → ((u : ℕ) → u < domains t → rights_word s u v ≡ rights_word t u v) → ((e : ℕ) → e < endpoints t → owner (endpoint t e) ≡ v → endpoint s e ≡ endpoint t e) → Agree v s t
agree_of s t zs zt d v lv row column owned =
    record {
      part = record { rights = rights_of-ext s t zs zt d v lv row; queues = λ e l o. ap (drop 2) (owned e l o) };
      on_it = column;
    }

-- ---- Step consistency: two tables that agree on v, each altered at the same place by the same rule, agree on v again.
module _ (s t : List ℕ) (acc_s : Accepted s) (acc_t : Accepted t) (f : SameFrame s t) (v : ℕ) (lv : v < domains t) (agree : Agree v s t) where
  abbrev zs : Sized s
  zs = accepted-sized s acc_s

  abbrev zt : Sized t
  zt = accepted-sized t acc_t

  below-s : (x : ℕ) → x < domains t → x < domains s
  below-s x l = subst (λ (n : ℕ). x < n) (sym f.same_domains) l

  endpoint-s : (e : ℕ) → e < endpoints t → e < endpoints s
  endpoint-s e l = subst (λ (m : ℕ). e < m) (sym f.same_endpoints) l

  -- one rights word is altered by the rule G
  module _ (G : ℕ → ℕ) (h g : ℕ) (lh : h < domains t) (lg : g < domains t) where
    abbrev s' : List ℕ
    s' = set_rights s h g (G (rights s h g))

    abbrev t' : List ℕ
    t' = set_rights t h g (G (rights t h g))

    pair-agrees : (x y : ℕ) → y < domains t → rights_word s x y ≡ rights_word t x y → rights_word s' x y ≡ rights_word t' x y
    unfolding rights
    pair-agrees x y l same =
        ⊎_elim
        (λ p.
        let here : rights_word s h g ≡ rights_word t h g = rw (← p.0, ← p.1) same in
        rw (p.0, p.1)
        (table.set_rights-same s zs h g (G (rights s h g)) (below-s h lh) (below-s g lg)
        ∙ ap (λ (w : ℕ). word 2 (G (payload w))) here
        ∙ sym (table.set_rights-same t zt h g (G (rights t h g)) lh lg)))
        (λ n.
        table.set_rights-other s zs h g (G (rights s h g)) (below-s h lh) (below-s g lg) x y (below-s y l) n
        ∙ same
        ∙ sym (table.set_rights-other t zt h g (G (rights t h g)) lh lg x y l n))
        (table.pair-either x y h g)

    rights-step : Agree v s' t'
    rights-step =
        let zt' = table.set_rights-sized t zt h g (G (rights t h g)) lh lg in
        let dt = table.set_rights-domains t zt h g (G (rights t h g)) lh lg in
        let mt = table.set_rights-endpoints t zt h g (G (rights t h g)) lh lg in
        agree_of s' t' (table.set_rights-sized s zs h g (G (rights s h g)) (below-s h lh) (below-s g lg)) zt'
        (table.set_rights-domains s zs h g (G (rights s h g)) (below-s h lh) (below-s g lg) ∙ f.same_domains ∙ sym dt)
        v (omega arith)
        (λ k l. let l' : k < domains t = omega arith in pair-agrees v k l' (row_same s t f v agree.part k l'))
        (λ u l. let l' : u < domains t = omega arith in pair-agrees u v lv (agree.on_it u l'))
        (λ e l o.
        let l' : e < endpoints t = omega arith in
        let kept_t = table.set_rights-endpoint t zt h g (G (rights t h g)) lh lg e l' in
        table.set_rights-endpoint s zs h g (G (rights s h g)) (below-s h lh) (below-s g lg) e (endpoint-s e l')
        ∙ owned-same s t f v agree.part e l' (ap owner (sym kept_t) ∙ o)
        ∙ sym kept_t)

  -- an endpoint is altered by the rule F, which keeps its name and info
  module _ (F : List ℕ → List ℕ) (e : ℕ) (o_s : InOrder s (new_endpoint e (F (endpoint s e)))) (o_t : InOrder t (new_endpoint e (F (endpoint t e)))) where
    abbrev s'' : List ℕ
    s'' = set_endpoint s e (F (endpoint s e))

    abbrev t'' : List ℕ
    t'' = set_endpoint t e (F (endpoint t e))

    endpoint-agrees : (k : ℕ) → k < endpoints t → endpoint s k ≡ endpoint t k → endpoint s'' k ≡ endpoint t'' k
    endpoint-agrees k l same =
        ⊎_elim
        (λ p.
        let here : endpoint s e ≡ endpoint t e = rw (← p) same in
        rw p
        (table.set_endpoint-same s zs e (F (endpoint s e)) o_s.0 o_s.1
        ∙ ap F here
        ∙ sym (table.set_endpoint-same t zt e (F (endpoint t e)) o_t.0 o_t.1)))
        (λ n.
        table.set_endpoint-other s zs e (F (endpoint s e)) o_s.0 o_s.1 k (endpoint-s k l) n
        ∙ same
        ∙ sym (table.set_endpoint-other t zt e (F (endpoint t e)) o_t.0 o_t.1 k l n))
        (table.equal-either k e)

    rights-kept : (x y : ℕ) → x < domains t → y < domains t → rights_word s x y ≡ rights_word t x y → rights_word s'' x y ≡ rights_word t'' x y
    rights-kept x y lx ly same =
        table.set_endpoint-rights s zs e (F (endpoint s e)) o_s.0 o_s.1 x y (below-s x lx) (below-s y ly)
        ∙ same
        ∙ sym (table.set_endpoint-rights t zt e (F (endpoint t e)) o_t.0 o_t.1 x y lx ly)

    endpoint-step : Agree v s'' t''
    endpoint-step =
        let dt = table.set_endpoint-domains t zt e (F (endpoint t e)) o_t.0 o_t.1 in
        let mt = table.set_endpoint-endpoints t zt e (F (endpoint t e)) o_t.0 o_t.1 in
        agree_of s'' t'' (table.set_endpoint-sized s zs e (F (endpoint s e)) o_s.0 o_s.1)
        (table.set_endpoint-sized t zt e (F (endpoint t e)) o_t.0 o_t.1)
        (table.set_endpoint-domains s zs e (F (endpoint s e)) o_s.0 o_s.1 ∙ f.same_domains ∙ sym dt)
        v (omega arith)
        (λ k l. let l' : k < domains t = omega arith in rights-kept v k lv l' (row_same s t f v agree.part k l'))
        (λ u l. let l' : u < domains t = omega arith in rights-kept u v l' lv (agree.on_it u l'))
        (λ k l o.
        let l' : k < endpoints t = omega arith in
        endpoint-agrees k l'
        (owned-same s t f v agree.part k l'
        (sym (endpoint-kept t acc_t e (F (endpoint t e)) owner o_t k l' (owner-kept (F (endpoint t e)) (endpoint t e) o_t.2)) ∙ o)))

-- what a call does is in order
pub call-in-order : (t : List ℕ) (c : Call) → Accepted t → InOrder t (effect t (decide t c))
unfolding effect
call-in-order t c a =
    decide-elim t c (λ d. InOrder t (effect t d))
    (record {
      refuses = λ _ _. tt;
      looks_up = λ _ _ _ _. tt;
      sending =
          λ _ _ l _.
          let q = endpoint t (field_b (first c)) in
          let twelve = table.endpoint-length t (accepted-sized t a) (field_b (first c)) l in
          let ok = accepted-endpoint t a (field_b (first c)) l in
          (l, sent-length (domains t) q twelve ok (second_payload c), sent-identity (domains t) q twelve ok (second_payload c), sent-ok (domains t) q (second_payload c) twelve (message-small c) ok);
      receiving =
          λ _ _ l _ w.
          let q = endpoint t (field_b (first c)) in
          let twelve = table.endpoint-length t (accepted-sized t a) (field_b (first c)) l in
          let most = waiting-most (domains t) q (accepted-endpoint t a _ l) in
          (l, received-length q twelve w most, received-identity q twelve w most, received-ok (domains t) q twelve w (accepted-endpoint t a _ l));
      endpoints_listed = λ _ _. tt;
      rights_listed = λ _ _. tt;
      granting =
          λ _ _ lg lh most _ _ _.
          (lh, lg, adds-within _ _ (held (field_b (first c)) (field_a (first c)) lh lg) most);
      removing =
          λ k _ lg _ _.
          (k.below, lg, le_trans (without-le _ _) (held (caller (first c)) (field_a (first c)) k.below lg));
      revoking =
          λ _ _ lg lh _ _.
          (lh, lg, le_trans (without-le _ _) (held (field_b (first c)) (field_a (first c)) lh lg));
    })
  where
    held : (h g : ℕ) → h < domains t → g < domains t → rights t h g ≤ all_rights
    held h g p q = rights-held t a h g p q

-- Tables stay accepted.
pub stays-accepted : EveryCallStaysAccepted
unfolding step
stays-accepted t c a =
    record {
      accepted = after-accepted t a (effect t (decide t c)) (call-in-order t c a);
      frame = after_frame t a (effect t (decide t c)) (call-in-order t c a);
    }

-- Local respect: a call leaves every domain that its caller doesn't influence as it was, and the rights on it too.
pub local-respect : (t : List ℕ) (c : Call) → Accepted t → (v : ℕ) → v < domains t → caller_influences t (caller_of c) v ≡ false → Agree v (step t c) t
unfolding step
local-respect t c a v lv n = after-agrees t a v lv (effect t (decide t c)) (call-in-order t c a) (call-spares t c v n)

-- a call with no known caller does nothing
no-caller : (t : List ℕ) (c : Call) → (Known t c → ⊥) → step t c ≡ t
unfolding step effect after
no-caller t c n =
    decide-elim t c (λ d. after t (effect t d) ≡ t)
    (record {
      refuses = λ _ _. refl;
      looks_up = λ _ _ _ _. refl;
      sending = λ k _ _ _. absurd (n k);
      receiving = λ k _ _ _ _. absurd (n k);
      endpoints_listed = λ _ _. refl;
      rights_listed = λ _ _. refl;
      granting = λ k _ _ _ _ _ _ _. absurd (n k);
      removing = λ k _ _ _ _. absurd (n k);
      revoking = λ k _ _ _ _ _. absurd (n k);
    })

pub refused-keeps : (t : List ℕ) (c : Call) (n : ℕ) → decide t c ≡ refused n → step t c ≡ t
unfolding step effect after
refused-keeps t c n e = rw e

-- A call alters only what belongs to domains that its caller influences.
pub alters-only : EveryCallAltersOnly
alters-only t c a =
    record {
      parts = λ v lv n. (local-respect t c a v lv n).part;
      refused = refused-keeps t c;
      stray = λ e. no-caller t c (λ k. let z : none ≡ some (caller (first c)) = sym e ∙ k.called_by in none-some z);
      unknown = λ u e l. no-caller t c (λ k. let z : some u ≡ some (caller (first c)) = sym e ∙ k.called_by in omega (arith, some_same z, k.below));
    }
  where
    none-some : {u : ℕ} → ◌≡◌ {A = Option ℕ} none (some u) → ⊥
    none-some {u} e = let z : ◌≡◌ {A = ℕ} 0 1 = cc in omega arith

    some_same : {u w : ℕ} → ◌≡◌ {A = Option ℕ} (some u) (some w) → u ≡ w
    some_same e = cc

-- Step consistency: where two tables agree on the caller's part and on v, so do they after the call.
pub step-consistent : (s t : List ℕ) (c : Call) → Accepted s → Accepted t → SameFrame s t → (Known t c → SamePart (caller (first c)) s t) → (v : ℕ) → v < domains t → Agree v s t → Agree v (step s c) (step t c)
unfolding step effect after
step-consistent s t c acc_s acc_t f mine v lv agree =
    subst (λ (d : Decision). Agree v (after s (effect s d)) (step t c)) (sym same)
    (decide-elim t c
    (λ d. InOrder s (effect s d) → InOrder t (effect t d) → Agree v (after s (effect s d)) (after t (effect t d)))
    (record {
      refuses = λ _ _ _ _. agree;
      looks_up = λ _ _ _ _ _ _. agree;
      sending = λ _ _ _ _. endpoint-step s t acc_s acc_t f v lv agree (λ q. sent q (second_payload c)) (field_b (first c));
      receiving = λ _ _ _ _ _. endpoint-step s t acc_s acc_t f v lv agree received (field_b (first c));
      endpoints_listed = λ _ _ _ _. agree;
      rights_listed = λ _ _ _ _. agree;
      granting = λ _ _ lg lh _ _ _ _ _ _. rights-step s t acc_s acc_t f v lv agree (λ r. adds r (field_c (first c))) (field_b (first c)) (field_a (first c)) lh lg;
      removing = λ k _ lg _ _ _ _. rights-step s t acc_s acc_t f v lv agree (λ r. without r (field_c (first c))) (caller (first c)) (field_a (first c)) k.below lg;
      revoking = λ _ _ lg lh _ _ _ _. rights-step s t acc_s acc_t f v lv agree (λ r. without r (field_c (first c))) (field_b (first c)) (field_a (first c)) lh lg;
    })
    (subst (λ (d : Decision). InOrder s (effect s d)) same (call-in-order s c acc_s))
    (call-in-order t c acc_t))
  where
    same : decide s c ≡ decide t c
    same = decide-same s t f acc_t c mine

-- A run leaves an accepted table too.
pub run-accepted : EveryRunStaysAccepted
unfolding run
run-accepted t [] a = record { accepted = a; frame = frame-refl t }
run-accepted t (c ∷ cs) a =
    let one = stays-accepted t c a in
    let rest = run-accepted (step t c) cs one.accepted in
    record { accepted = rest.accepted; frame = frame-trans rest.frame one.frame }
