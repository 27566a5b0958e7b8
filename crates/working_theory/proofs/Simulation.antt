-- A call on a state simulates the call on the table that the state represents (specs/Represents). Assumes nothing.
use mathlib.Core.Path.{◌≡◌, refl, sym, ap, ap₂, subst, subst₂, ◌∙◌}
use mathlib.Core.Logic.{⊎_elim}
use mathlib.Core.Bool.{true, false, cond}
use mathlib.Core.List.{List, [], ◌∷◌}
use Prim.Native.Nat.{ℕ, ◌+◌, ◌*◌, ◌%◌, ◌^◌, ◌<◌, ◌≤◌}
use native.Mathlib.Nat.{le_trans, mod-eq_of_lt}
use native.Mathlib.Decide.{dec_lt, ℕ_discrete}
use native.Mathlib.Omega.{arith}
use lib.Dec.{eqb, ltb}
use lib.ListN.{length, get_or}
use borrow.Author.Tests.{lt-ltb, le-ltb, ltb-true}
use Rattle.std.specs.Prelude as std
use Rattle.machine.specs.Word.{payload, caller, field_a, field_b, field_c}
use Rattle.machine.specs.Right.{all_rights, adds, without}
use Rattle.machine.specs.Table as machine
use Rattle.machine.specs.Table.{rights_word, rights, endpoint, set_rights, set_endpoint}
use Rattle.machine.specs.Queue.{owner, oldest, sent, received}
use Rattle.machine.specs.Below.{sum_below}
use Rattle.machine.specs.Check.{Accepted}
use Rattle.machine.specs.Call.{Call, Call.one, first, second_payload}
use Rattle.machine.specs.Machine.{Decision, decide, effect, after, step, owned_bits, rights_bits, code, data_words, shown_caller, answer_word, answer_to, answer}
use Rattle.machine.specs.Holders.{holders_of}
use Rattle.machine.proofs.Accepted.{accepted-sized, accepted-counts, accepted-endpoint, info-of}
use Rattle.machine.proofs.Below.{sum_same}
use Rattle.machine.proofs.Decide.{decide-elim}
use Rattle.machine.proofs.Queue.{payload-word, name-kept, owner-kept, message-small, waiting-most, sent-length, received-length}
use Rattle.machine.proofs.Right.{adds-within, without-le}
use Rattle.machine.proofs.Step.{rights-held, stays-accepted}
use Rattle.machine.proofs.Table as table
use Rattle.machine.proofs.Table.{Sized, endpoint-length}
use Rattle.calls.specs.Split.{call_of}
use Rattle.answers.proofs.Digits.{digits-below}
use Rattle.holders.specs.Noted.{noted, holders_after}
use Rattle.holders.proofs.Kept.{holders-kept}
use Rattle.rights_matrix.specs.Rows.{held_in, with_held}
use Rattle.rights_matrix.specs.Claims.{SameRights}
use Rattle.rights_matrix.proofs.Rights.{put-is-held}
use Rattle.ring.specs.Ring.{of_twelve}
use Rattle.ring.specs.Claims.{RepresentsQueue}
use Rattle.ring.proofs.Words.{of-twelve}
use Rattle.ring.proofs.Simulation.{queues-simulate}
use Rattle.working_theory.specs.State.{ring_at, with_ring, row_bits, first_from, second_from, answer_from, effect_from, rows_after, rings_after}
use Rattle.working_theory.specs.Represents.{Represents, CallsSimulate}
use Rattle.working_theory.proofs.Rings.{ring-length, with-length, ring-same, ring-other}
use Rattle.working_theory.proofs.Reading.{decided-same}

-- the words of an answer, by its data
answer-words :
    (w : ℕ) (s : std.Option ℕ) (rows : List (List ℕ)) (rings owned t : List ℕ) (d : Decision)
    → first_from rows rings owned d ≡ (data_words t d).0
    → second_from rows rings d ≡ (data_words t d).1
    → answer_from w rows rings owned d ≡ answer_to t (call_of w s) d
unfolding answer_from answer_to answer_word shown_caller first
answer-words w s rows rings owned t d p q = ap₂ (λ (x y : ℕ). answer_word (one w) (code d) ∷ x ∷ y ∷ []) p q ∙ by_first s
  where
    by_first : (s : std.Option ℕ) → answer_word (one w) (code d) ∷ (data_words t d).0 ∷ (data_words t d).1 ∷ [] ≡ answer_to t (call_of w s) d
    by_first std.None = refl
    by_first (std.Some v) = refl

module _ (n m : ℕ) (rows : List (List ℕ)) (rings names owned t : List ℕ) (a : Accepted t) (x : Represents n m rows rings names owned t) where
  few : n ≤ 16
  few = omega (arith, (accepted-counts t a).1, x.domains)

  -- ---- the data words
  row-bits : (u g : ℕ) → u < n → g + 8 ≤ 16 → row_bits rows u g ≡ rights_bits t u g
  unfolding row_bits rights_bits
  row-bits u g l top =
      ap (λ (k : ℕ). k % 2 ^ 32) (sum_same 8 _ _ (λ i b. ap (λ (k : ℕ). k * 16 ^ i) (place i b (dec_lt (g + i) n))))
      ∙ mod-eq_of_lt (digits-below 16 shown 8 (λ i b. small i (ltb (g + i) (machine.domains t)) refl))
    where
      shown : ℕ → ℕ
      shown i = cond (ltb (g + i) (machine.domains t)) (rights t u (g + i)) 0

      place : (i : ℕ) → i < 8 → Dec (g + i < n) → held_in rows u (g + i) ≡ shown i
      place i b (yes known) = x.rights.same u (g + i) l known ∙ rw (lt-ltb (g + i) (machine.domains t) (rw x.domains at known))
      place i b (no past) =
          x.rights.nothing u (g + i) l (omega arith) (omega arith)
          ∙ rw (le-ltb (g + i) (machine.domains t) (omega (arith, x.domains)))

      small : (i : ℕ) (b : _) → ltb (g + i) (machine.domains t) ≡ b → cond b (rights t u (g + i)) 0 < 16
      small i true h = omega (arith, rights-held t a u (g + i) (rw x.domains at l) (ltb-true _ _ h))
      small i false h = omega arith

  -- the ring of an endpoint has twelve words
  all_there : {A : Type 0} (e : ℕ) (done left : A) → e < m → of_twelve (ring_at rings e) done left ≡ done
  all_there e done left l = sym (of-twelve (ring_at rings e) done left (ring-length rings m x.size e l) refl)

  below-m : (e : ℕ) → e < machine.endpoints t → e < m
  below-m e l = rw (← x.endpoints) at l

  below-n : (u : ℕ) → u < machine.domains t → u < n
  below-n u l = rw (← x.domains) at l

  same-held : (h g : ℕ) → h < machine.domains t → g < machine.domains t → held_in rows h g ≡ rights t h g
  same-held h g lh lg = x.rights.same h g (below-n h lh) (below-n g lg)

  answer-along : (w : ℕ) (s : std.Option ℕ) → answer_from w rows rings owned (decide t (call_of w s)) ≡ answer t (call_of w s)
  unfolding answer first_from second_from data_words oldest
  answer-along w s =
      let c = call_of w s in
      decide-elim t c (λ d. answer_from w rows rings owned d ≡ answer_to t c d)
      (record {
        refuses = λ _ _. answer-words w s rows rings owned t _ refl refl;
        looks_up = λ _ _ _ _. answer-words w s rows rings owned t _ refl refl;
        sending = λ _ _ _ _. answer-words w s rows rings owned t _ refl refl;
        receiving =
            λ _ _ l _ some.
            let e = field_b (first c) in
            let q = x.queues e (below-m e l) in
            answer-words w s rows rings owned t _ (all_there e _ _ (below-m e l) ∙ q.messages 0 (omega (arith, q.same_count, some)))
            (all_there e _ _ (below-m e l) ∙ q.same_lost);
        endpoints_listed =
            λ known _.
            let u = caller (first c) in
            let l = below-n u known.below in
            answer-words w s rows rings owned t _ (ap (λ (i : ℕ). get_or owned i 0) (mod-eq_of_lt (omega (arith, few))) ∙ x.same_owned u l) refl;
        rights_listed =
            λ known _.
            let l = below-n (caller (first c)) known.below in
            answer-words w s rows rings owned t _ (row-bits _ 0 l (omega arith)) (row-bits _ 8 l (omega arith));
        granting = λ _ _ _ _ _ _ _ _. answer-words w s rows rings owned t _ refl refl;
        removing = λ _ _ _ _ _. answer-words w s rows rings owned t _ refl refl;
        revoking = λ _ _ _ _ _ _. answer-words w s rows rings owned t _ refl refl;
      })

  -- ---- the effect on the state notes in the holders what the effect on the table notes
  noted-along : (c : Call) (p : List ℕ) → holders_after p (effect_from rows rings (decide t c)) ≡ holders_after p (effect t (decide t c))
  unfolding effect_from effect holders_after
  noted-along c p =
      decide-elim t c (λ d. holders_after p (effect_from rows rings d) ≡ holders_after p (effect t d))
      (record {
        refuses = λ _ _. refl;
        looks_up = λ _ _ _ _. refl;
        sending = λ _ _ _ _. refl;
        receiving = λ _ _ _ _ _. refl;
        endpoints_listed = λ _ _. refl;
        rights_listed = λ _ _. refl;
        granting = λ _ _ lg lh _ _ _ _. ap (λ (k : ℕ). noted p (field_b (first c)) (field_a (first c)) (adds k (field_c (first c)))) (same-held _ _ lh lg);
        removing = λ known _ lg _ _. ap (λ (k : ℕ). noted p (caller (first c)) (field_a (first c)) (without k (field_c (first c)))) (same-held _ _ known.below lg);
        revoking = λ _ _ lg lh _ _. ap (λ (k : ℕ). noted p (field_b (first c)) (field_a (first c)) (without k (field_c (first c)))) (same-held _ _ lh lg);
      })

  -- ---- what is left represents the table after the call, but for what never changes
  record Core (rows' : List (List ℕ)) (rings' t' : List ℕ) : Type 0 where
    pub rights : SameRights n rows' t'
    pub size : length rings' ≡ 12 * m
    pub queues : (e : ℕ) → e < m → RepresentsQueue (ring_at rings' e) (endpoint t' e)

  unaltered : Core rows rings t
  unaltered = record { rights = x.rights; size = x.size; queues = x.queues }

  z : Sized t
  z = accepted-sized t a

  -- one queue
  module _ (e : ℕ) (l : e < machine.endpoints t) (r q : List ℕ) (twelve : length q ≡ 12) (st : RepresentsQueue r q) where
    queue-core : Core rows (with_ring rings e r) (set_endpoint t e q)
    unfolding rights
    queue-core =
        record {
          rights =
              record {
                sixteen = x.rights.sixteen;
                same =
                    λ h g lh lg.
                    x.rights.same h g lh lg
                    ∙ ap payload (sym (table.set_endpoint-rights t z e q l twelve h g (rw x.domains at lh) (rw x.domains at lg)));
                nothing = x.rights.nothing;
              };
          size = with-length rings m x.size e (below-m e l) r st.twelve;
          queues = λ f b. go f b (ℕ_discrete f e);
        }
      where
        go : (f : ℕ) → f < m → Dec (f ≡ e) → RepresentsQueue (ring_at (with_ring rings e r) f) (endpoint (set_endpoint t e q) f)
        go f b (yes is) =
            subst (λ (k : ℕ). RepresentsQueue (ring_at (with_ring rings e r) k) (endpoint (set_endpoint t e q) k)) (sym is)
            (subst₂ RepresentsQueue (sym (ring-same rings m x.size e (below-m e l) r st.twelve)) (sym (table.set_endpoint-same t z e q l twelve)) st)
        go f b (no ne) =
            subst₂ RepresentsQueue (sym (ring-other rings m x.size e (below-m e l) r st.twelve f b ne))
            (sym (table.set_endpoint-other t z e q l twelve f (rw x.endpoints at b) ne))
            (x.queues f b)

  -- one holder's rights on a target
  module _ (h g s : ℕ) (lh : h < machine.domains t) (lg : g < machine.domains t) (within : s ≤ all_rights) where
    rights-core : Core (with_held rows h g (s % 256)) rings (set_rights t h g s)
    unfolding rights
    rights-core =
        let nh = below-n h lh in
        let ng = below-n g lg in
        let put = put-is-held rows h g (s % 256) x.rights.sixteen (omega (arith, few)) (omega (arith, few)) in
        record {
          rights =
              record {
                sixteen = put.sixteen;
                same =
                    λ i j li lj.
                    ⊎_elim
                    (λ is.
                    ap₂ (held_in (with_held rows h g (s % 256))) is.0 is.1
                    ∙ put.held
                    ∙ mod-eq_of_lt (omega arith)
                    ∙ sym
                    (ap₂ (λ (u v : ℕ). payload (rights_word (set_rights t h g s) u v)) is.0 is.1
                    ∙ ap payload (table.set_rights-same t z h g s lh lg)
                    ∙ payload-word 2 s (omega arith)))
                    (λ ne.
                    put.others i j (omega (arith, few)) (omega (arith, few)) ne
                    ∙ x.rights.same i j li lj
                    ∙ ap payload (sym (table.set_rights-other t z h g s lh lg i j (rw x.domains at lj) ne)))
                    (table.pair-either i j h g);
                nothing = λ i j li past lj. put.others i j (omega (arith, few)) lj (λ _ is. omega arith) ∙ x.rights.nothing i j li past lj;
              };
          size = x.size;
          queues = λ e l. subst (RepresentsQueue (ring_at rings e)) (sym (table.set_rights-endpoint t z h g s lh lg e (rw x.endpoints at l))) (x.queues e l);
        }

  -- the same rights, written to the rows and to the table
  rights-along : (h g : ℕ) (f : ℕ → ℕ) (lh : h < machine.domains t) (lg : g < machine.domains t) → f (rights t h g) ≤ all_rights
      → Core (with_held rows h g (f (held_in rows h g) % 256)) rings (set_rights t h g (f (rights t h g)))
  rights-along h g f lh lg within =
      subst (λ (k : ℕ). Core (with_held rows h g (f k % 256)) rings (set_rights t h g (f (rights t h g)))) (sym (same-held h g lh lg))
      (rights-core h g (f (rights t h g)) lh lg within)

  -- what a decision leaves
  core-along : (c : Call) → Core (rows_after rows (effect_from rows rings (decide t c))) (rings_after rings (effect_from rows rings (decide t c))) (step t c)
  unfolding step rows_after rings_after effect_from effect after
  core-along c =
      decide-elim t c (λ d. Core (rows_after rows (effect_from rows rings d)) (rings_after rings (effect_from rows rings d)) (after t (effect t d)))
      (record {
        refuses = λ _ _. unaltered;
        looks_up = λ _ _ _ _. unaltered;
        sending =
            λ _ _ l _.
            let e = field_b (first c) in
            let q = endpoint t e in
            let ok = accepted-endpoint t a e l in
            let info = info-of (machine.domains t) q ok in
            let small = message-small c in
            subst (λ (r : List ℕ). Core rows (with_ring rings e r) (set_endpoint t e (sent q (second_payload c)))) (sym (all_there e _ _ (below-m e l)))
            (queue-core e l _ (sent q (second_payload c)) (sent-length (machine.domains t) q (twelve e l) ok _)
            ((queues-simulate q (ring_at rings e) (twelve e l) info.1 info.2 (x.queues e (below-m e l))).0 _ small));
        receiving =
            λ _ _ l _ some.
            let e = field_b (first c) in
            let q = endpoint t e in
            let ok = accepted-endpoint t a e l in
            let info = info-of (machine.domains t) q ok in
            subst (λ (r : List ℕ). Core rows (with_ring rings e r) (set_endpoint t e (received q))) (sym (all_there e _ _ (below-m e l)))
            (queue-core e l _ (received q) (received-length q (twelve e l) some (waiting-most (machine.domains t) q ok))
            ((queues-simulate q (ring_at rings e) (twelve e l) info.1 info.2 (x.queues e (below-m e l))).1 (omega (arith, some))));
        endpoints_listed = λ _ _. unaltered;
        rights_listed = λ _ _. unaltered;
        granting = λ _ _ lg lh most _ _ _. rights-along _ _ (λ k. adds k (field_c (first c))) lh lg (adds-within _ _ (rights-held t a _ _ lh lg) most);
        removing = λ known _ lg _ _. rights-along _ _ (λ k. without k (field_c (first c))) known.below lg (le_trans (without-le _ _) (rights-held t a _ _ known.below lg));
        revoking = λ _ _ lg lh _ _. rights-along _ _ (λ k. without k (field_c (first c))) lh lg (le_trans (without-le _ _) (rights-held t a _ _ lh lg));
      })
    where
      twelve : (e : ℕ) → e < machine.endpoints t → length (endpoint t e) ≡ 12
      twelve = endpoint-length t z

  -- ---- and what never changes
  state-along : (c : Call) → Represents n m (rows_after rows (effect_from rows rings (decide t c))) (rings_after rings (effect_from rows rings (decide t c))) names owned (step t c)
  unfolding owned_bits
  state-along c =
      let core = core-along c in
      let frame = (stays-accepted t c a).frame in
      record {
        domains = x.domains ∙ sym frame.same_domains;
        endpoints = x.endpoints ∙ sym frame.same_endpoints;
        rights = core.rights;
        size = core.size;
        queues = core.queues;
        same_names =
            λ e l.
            x.same_names e l ∙ sym (name-kept (endpoint (step t c) e) (endpoint t e) (frame.identity e (rw x.endpoints at l)));
        same_owned =
            λ u l.
            x.same_owned u l
            ∙ sym
            (ap (λ (k : ℕ). sum_below k (λ e. cond (eqb (owner (endpoint (step t c) e)) u) (2 ^ e) 0)) frame.same_endpoints
            ∙ sum_same (machine.endpoints t) _ _
            (λ e b. ap (λ (o : ℕ). cond (eqb o u) (2 ^ e) 0) (owner-kept (endpoint (step t c) e) (endpoint t e) (frame.identity e b))));
      }

pub calls-simulate : CallsSimulate
calls-simulate w s n m rows rings names hints owned t a x =
    let c = call_of w s in
    record {
      decided = decided-same n m rows rings names owned t a x hints w s;
      answer = answer-along n m rows rings names owned t a x w s;
      state = state-along n m rows rings names owned t a x c;
      holders = noted-along n m rows rings names owned t a x c (holders_of t) ∙ holders-kept t c a;
    }
