-- What each code of a table is for (specs/Claims: TableCodeExactly): the machine's tests say what the layout says (specs/Layout).
-- Assumes nothing.
use mathlib.Core.Path.{◌≡◌, refl, ap₂, subst, ◌∙◌}
use mathlib.Core.Bool.{Bool, true, false, cond, not, ◌&&◌, ◌||◌, false≢true}
use mathlib.Core.Logic.{⊎_elim, ◌↔◌}
use mathlib.Core.List.{List}
use Prim.Native.Nat.{ℕ, zero, suc, ◌+◌, ◌*◌, ◌/◌, ◌%◌, ◌<◌, ◌≤◌}
use native.Mathlib.Nat.{div-lt_iff_lt-mul, mod-lt, div-add-mod'}
use native.Mathlib.Omega.{arith}
use borrow.Author.Tests.{ltb-true, ltb-false, leb-true, eqb-true, eqb-false, lt-ltb, le-leb, eq-eqb, ne_eqb, not-true}
use lib.Dec.{eqb, leb, ltb}
use lib.ListN.{length, get_or, drop}
use lib.Seq.{get_or-take, get_or-drop}
use lib.Arith.{digits_lt}
use Rattle.machine.specs.Word.{kind, payload, upper, field_b, field_c}
use Rattle.machine.specs.Table.{domains, endpoints, endpoint_at, endpoint}
use Rattle.machine.specs.Queue.{name, capacity, waiting, empty_slot}
use Rattle.machine.specs.Check.{header_word_ok, rights_word_ok, name_word_ok, info_word_ok, waiting_word_ok, lost_word_ok, slot_word_ok, identity_ok, queue_ok, endpoint_ok, name_new, header_ok, length_ok, rights_ok, endpoints_ok, table_code}
use Rattle.machine.specs.Below.{all_below}
use Rattle.machine.proofs.Bools.{and_left, and_right, and_intro, or_cases, or_right, either}
use Rattle.machine.proofs.Below.{all-at, all_of, all_same}
use Rattle.codes_theory.specs.Layout.{HeaderHolds, LengthHolds, RightsWordHolds, RightsHold, word_of, EndpointHolds, EndpointsHold}
use Rattle.codes_theory.specs.Claims.{EveryTableCodeExactly}

-- a test says what P says
abbrev Says : Bool → Type 0 → Type 0
Says b P = (b ≡ true) ↔ P

-- ---- from tests of parts to a test of all

both : {a b : Bool} {P Q : Type 0} → Says a P → Says b Q → Says (a && b) (P × Q)
both {a} {b} p q = (λ e. (p.0 (and_left a b e), q.0 (and_right a b e)), λ x. and_intro (p.1 x.0) (q.1 x.1))

equal : (a b : ℕ) → Says (eqb a b) (a ≡ b)
equal a b = (eqb-true a b, eq-eqb a b)

at_most : (a b : ℕ) → Says (leb a b) (a ≤ b)
at_most a b = (leb-true a b, le-leb a b)

below : (a b : ℕ) → Says (ltb a b) (a < b)
below a b = (ltb-true a b, lt-ltb a b)

differ : (a b : ℕ) → Says (not (eqb a b)) (a ≡ b → ⊥)
differ a b = (λ e. eqb-false a b (not-true (eqb a b) e), λ n. rw (ne_eqb a b n))

all : (k : ℕ) (p : ℕ → Bool) (P : ℕ → Type 0) → ((i : ℕ) → i < k → Says (p i) (P i)) → Says (all_below k p) ((i : ℕ) → i < k → P i)
all k p P f = (λ e i l. (f i l).0 (all-at k p e i l), λ x. all_of k p (λ i l. (f i l).1 (x i l)))

-- ---- the places of a code

module _ {P : Type 0} where
  -- a place that refuses by k, where the places after it don't
  here : (b : Bool) (k rest : ℕ) → (rest ≡ k → ⊥) → Says b P → (cond (not b) k rest ≡ k) ↔ (P → ⊥)
  here true k rest n s = (λ e. absurd (n e), λ none. absurd (none (s.0 refl)))
  here false k rest n s = (λ e p. false≢true (s.1 p), λ _. refl)

  -- a code j of the places after one that refuses by k
  later : {Q : Type 0} (b : Bool) (k j rest : ℕ) → (k ≡ j → ⊥) → Says b P → (rest ≡ j) ↔ Q → (cond (not b) k rest ≡ j) ↔ (P × Q)
  later true k j rest n s x = (λ e. (s.0 refl, x.0 e), λ y. x.1 y.1)
  later false k j rest n s x = (λ e. absurd (n e), λ y. absurd (false≢true (s.1 y.0)))

  -- the last place doesn't refuse by k either
  last : (b : Bool) (k : ℕ) → (k ≡ 0 → ⊥) → Says b P → (cond (not b) k 0 ≡ 0) ↔ P
  last true k n s = (λ _. s.0 refl, λ _. refl)
  last false k n s = (λ e. absurd (n e), λ p. absurd (false≢true (s.1 p)))

-- neither a place nor those after it refuse by j
other : (b : Bool) (k j rest : ℕ) → (k ≡ j → ⊥) → (rest ≡ j → ⊥) → cond (not b) k rest ≡ j → ⊥
other true k j rest n m e = m e
other false k j rest n m e = n e

-- nested pairs as one
flat3 : {A P Q R : Type 0} → A ↔ (P × (Q × R)) → A ↔ (P × Q × R)
flat3 x = (λ a. let y = x.0 a in (y.0, y.1.0, y.1.1), λ y. x.1 (y.0, (y.1, y.2)))

flat4 : {A P Q R S : Type 0} → A ↔ (P × (Q × (R × S))) → A ↔ (P × Q × R × S)
flat4 x = (λ a. let y = x.0 a in (y.0, y.1.0, y.1.1.0, y.1.1.1), λ y. x.1 (y.0, (y.1, (y.2, y.3))))

-- ---- what the tests of single words say

name-says : (w : ℕ) → Says (name_word_ok w) ((kind w ≡ 3) × (payload w ≡ 0 → ⊥))
unfolding name_word_ok
name-says w = both (equal (kind w) 3) (differ (payload w) 0)

info-says : (n w : ℕ)
    → Says (info_word_ok n w) (((((kind w ≡ 4) × (upper w ≡ 0)) × (field_b w < n)) × (1 ≤ field_c w)) × (field_c w ≤ 8))
unfolding info_word_ok
info-says n w =
    both (both (both (both (equal (kind w) 4) (equal (upper w) 0)) (below (field_b w) n)) (at_most 1 (field_c w))) (at_most (field_c w) 8)

waiting-says : (most w : ℕ) → Says (waiting_word_ok most w) ((kind w ≡ 5) × (payload w ≤ most))
unfolding waiting_word_ok
waiting-says most w = both (equal (kind w) 5) (at_most (payload w) most)

lost-says : (w : ℕ) → Says (lost_word_ok w) (kind w ≡ 6)
unfolding lost_word_ok
lost-says w = equal (kind w) 6

-- below the count anything may be there
empty-says : (count i w : ℕ) → Says (ltb i count || eqb w empty_slot) (count ≤ i → w ≡ 0xF000_0000)
empty-says count i w = (
  λ e from. ⊎_elim (λ l. absurd (omega (arith, from, ltb-true i count l))) (eqb-true w empty_slot) (or_cases (ltb i count) (eqb w empty_slot) e),
  λ f.
      ⊎_elim (λ l. rw l) (λ l. or_right (ltb i count) (eqb w empty_slot) (eq-eqb w empty_slot (f (ltb-false i count l)))) (either (ltb i count)),
)

slot-says : (count i w : ℕ) → Says (slot_word_ok count i w) ((kind w ≡ 15) × (count ≤ i → w ≡ 0xF000_0000))
unfolding slot_word_ok
slot-says count i w = both (equal (kind w) 15) (empty-says count i w)

rights-says : (w : ℕ) → Says (rights_word_ok w) (RightsWordHolds w)
unfolding rights_word_ok
rights-says w =
    let s = both (equal (kind w) 2) (at_most (payload w) 15) in
    (λ e. let x = s.0 e in record { of_kind = x.0; rest_zero = x.1 }, λ h. s.1 (h.of_kind, h.rest_zero))

-- ---- what the four tests of a table say

module _ (t : List ℕ) where
  header-says : Says (header_ok t) (HeaderHolds t)
  unfolding header_ok header_word_ok domains endpoints
  header-says =
      let w = get_or t 0 0 in
      let s =
      both (differ (length t) 0)
      (both (both (both (both (equal (kind w) 1) (equal (upper w) 0)) (at_most 1 (field_b w))) (at_most (field_b w) 16))
      (at_most (field_c w) 32))
      in (
        λ e.
            let x = s.0 e in
            let y = x.1 in
            record {
              some = omega (arith, x.0);
              of_kind = y.0.0.0.0;
              upper_zero = y.0.0.0.1;
              fewest_domains = y.0.0.1;
              most_domains = y.0.1;
              most_endpoints = y.1;
            },
        λ h.
            s.1
            (λ e. omega (arith, h.some, e), ((((h.of_kind, h.upper_zero), h.fewest_domains), h.most_domains), h.most_endpoints)),
      )

  length-says : Says (length_ok t) (LengthHolds t)
  unfolding length_ok
  length-says = equal (length t) (1 + domains t * domains t + 12 * endpoints t)

  -- every place of the rights words is that of a holder and a target
  rights-all-says : Says (rights_ok t) (RightsHold t)
  unfolding rights_ok
  rights-all-says =
      let s =
      all (domains t * domains t) (λ i. rights_word_ok (get_or t (1 + i) 0)) (λ i. RightsWordHolds (get_or t (1 + i) 0))
      (λ i _. rights-says (get_or t (1 + i) 0))
      in (
        λ e h g p q.
            let at : 1 + (h * domains t + g) ≡ 1 + h * domains t + g = omega arith in
            subst (λ (j : ℕ). RightsWordHolds (get_or t j 0)) at (s.0 e (h * domains t + g) (digits_lt p q)),
        λ f.
            s.1
            (λ i l.
            let pos : 0 < domains t = some-domain (domains t) i l in
            let at : 1 + i / domains t * domains t + i % domains t ≡ 1 + i = omega (arith, div-add-mod' i (domains t)) in
            subst (λ (j : ℕ). RightsWordHolds (get_or t j 0)) at
            (f (i / domains t) (i % domains t) ((div-lt_iff_lt-mul pos).1 l) (mod-lt i pos))),
      )
    where
      some-domain : (k i : ℕ) → i < k * k → 0 < k
      some-domain zero i l = absurd (omega (arith, l))
      some-domain (suc k) i l = omega arith

  -- the words of an endpoint, by their places
  word_at : (e k : ℕ) → k < 12 → get_or (endpoint t e) k 0 ≡ word_of t e k
  unfolding endpoint
  word_at e k l = get_or-take 12 (drop (endpoint_at (domains t) e) t) k 0 l ∙ get_or-drop (endpoint_at (domains t) e) t k 0

  slots_ok : ℕ → Bool
  slots_ok e = all_below 8 (λ i. slot_word_ok (payload (word_of t e 2)) i (word_of t e (4 + i)))

  queue_words_ok : ℕ → Bool
  queue_words_ok e = waiting_word_ok (field_c (word_of t e 1)) (word_of t e 2) && lost_word_ok (word_of t e 3) && slots_ok e

  same-slots : (e : ℕ) → all_below 8 (λ i. slot_word_ok (waiting (endpoint t e)) i (get_or (endpoint t e) (4 + i) 0)) ≡ slots_ok e
  unfolding slots_ok waiting
  same-slots e =
      all_same 8 _ _
      (λ i l. ap₂ (λ (x y : ℕ). slot_word_ok (payload x) i y) (word_at e 2 (omega arith)) (word_at e (4 + i) (omega arith)))

  same_queue : (e : ℕ) → queue_ok (endpoint t e) ≡ queue_words_ok e
  unfolding queue_ok queue_words_ok capacity
  same_queue e = rw (same-slots e, word_at e 1 (omega arith), word_at e 2 (omega arith), word_at e 3 (omega arith))

  same-words : (e : ℕ) → endpoint_ok (domains t) (endpoint t e) ≡ (name_word_ok (word_of t e 0) && info_word_ok (domains t) (word_of t e 1) && queue_words_ok e)
  unfolding endpoint_ok identity_ok
  same-words e = rw (same_queue e, word_at e 0 (omega arith), word_at e 1 (omega arith))

  words-say : (e : ℕ) → Says (endpoint_ok (domains t) (endpoint t e)) (EndpointHolds t e)
  unfolding queue_words_ok slots_ok
  words-say e =
      rw (same-words e)
      (let s =
      both (both (name-says (word_of t e 0)) (info-says (domains t) (word_of t e 1)))
      (both (both (waiting-says (field_c (word_of t e 1)) (word_of t e 2)) (lost-says (word_of t e 3)))
      (all 8 _ _ (λ i _. slot-says (payload (word_of t e 2)) i (word_of t e (4 + i)))))
      in (
        λ x.
            let y = s.0 x in
            let info = y.0.1 in
            let queue = y.1 in
            record {
              name_kind = y.0.0.0;
              name_some = y.0.0.1;
              info_kind = info.0.0.0.0;
              info_upper_zero = info.0.0.0.1;
              owner_known = info.0.0.1;
              least_capacity = info.0.1;
              most_capacity = info.1;
              waiting_kind = queue.0.0.0;
              waiting_few = queue.0.0.1;
              lost_kind = queue.0.1;
              slot_kind = λ i l. (queue.1 i l).0;
              slot_empty = λ i l. (queue.1 i l).1;
            },
        λ h.
            s.1
            (((h.name_kind, h.name_some), ((((h.info_kind, h.info_upper_zero), h.owner_known), h.least_capacity), h.most_capacity)), (((h.waiting_kind, h.waiting_few), h.lost_kind), λ i l. (h.slot_kind i l, h.slot_empty i l))),
      ))

  -- no endpoint before e has its name
  new-says : (e : ℕ) → Says (name_new t e) ((f : ℕ) → f < e → payload (word_of t f 0) ≡ payload (word_of t e 0) → ⊥)
  unfolding name_new name
  new-says e =
      all e _ _
      (λ f _. rw (word_at f 0 (omega arith), word_at e 0 (omega arith)) (differ (payload (word_of t f 0)) (payload (word_of t e 0))))

  endpoints-say : Says (endpoints_ok t) (EndpointsHold t)
  unfolding endpoints_ok
  endpoints-say =
      let s = all (endpoints t) _ _ (λ e _. both (words-say e) (new-says e)) in (
        λ x. record { each = λ e l. (s.0 x e l).0; names_differ = λ f e l le. (s.0 x e le).1 f l },
        λ h. s.1 (λ e l. (h.each e l, λ f lf. h.names_differ f e lf l)),
      )

-- ---- the code

module _ (t : List ℕ) where
  -- none of the places from 5, from 4 and from 3 on refuses by j
  not-5 : (j : ℕ) → (5 ≡ j → ⊥) → (0 ≡ j → ⊥) → cond (not (endpoints_ok t)) 5 0 ≡ j → ⊥
  not-5 j n z = other (endpoints_ok t) 5 j 0 n z

  not-4 : (j : ℕ) → (4 ≡ j → ⊥) → (5 ≡ j → ⊥) → (0 ≡ j → ⊥) → cond (not (rights_ok t)) 4 (cond (not (endpoints_ok t)) 5 0) ≡ j → ⊥
  not-4 j m n z = other (rights_ok t) 4 j _ m (not-5 j n z)

  -- a code after the first place, the first two and the first three
  past-2 : {Q : Type 0} (j rest : ℕ) → (2 ≡ j → ⊥) → (rest ≡ j) ↔ Q → (cond (not (header_ok t)) 2 rest ≡ j) ↔ (HeaderHolds t × Q)
  past-2 j rest n x = later (header_ok t) 2 j rest n (header-says t) x

  past-3 : {Q : Type 0} (j rest : ℕ) → (2 ≡ j → ⊥) → (3 ≡ j → ⊥) → (rest ≡ j) ↔ Q
      → (cond (not (header_ok t)) 2 (cond (not (length_ok t)) 3 rest) ≡ j) ↔ (HeaderHolds t × (LengthHolds t × Q))
  past-3 j rest n m x = past-2 j _ n (later (length_ok t) 3 j rest m (length-says t) x)

  past-4 : {Q : Type 0} (j rest : ℕ) → (2 ≡ j → ⊥) → (3 ≡ j → ⊥) → (4 ≡ j → ⊥) → (rest ≡ j) ↔ Q
      → (cond (not (header_ok t)) 2 (cond (not (length_ok t)) 3 (cond (not (rights_ok t)) 4 rest)) ≡ j)
      ↔ (HeaderHolds t × (LengthHolds t × (RightsHold t × Q)))
  past-4 j rest n m k x = past-3 j _ n m (later (rights_ok t) 4 j rest k (rights-all-says t) x)

pub table-code-exactly : EveryTableCodeExactly
unfolding table_code
table-code-exactly t =
    record {
      two =
          here (header_ok t) 2 _
          (other (length_ok t) 3 2 _ (λ x. omega arith) (not-4 t 2 (λ x. omega arith) (λ x. omega arith) (λ x. omega arith)))
          (header-says t);
      three =
          past-2 t 3 _ (λ x. omega arith)
          (here (length_ok t) 3 _ (not-4 t 3 (λ x. omega arith) (λ x. omega arith) (λ x. omega arith)) (length-says t));
      four =
          flat3
          (past-3 t 4 _ (λ x. omega arith) (λ x. omega arith)
          (here (rights_ok t) 4 _ (not-5 t 4 (λ x. omega arith) (λ x. omega arith)) (rights-all-says t)));
      five =
          flat4
          (past-4 t 5 _ (λ x. omega arith) (λ x. omega arith) (λ x. omega arith)
          (here (endpoints_ok t) 5 0 (λ x. omega arith) (endpoints-say t)));
      accepted =
          flat4
          (past-4 t 0 _ (λ x. omega arith) (λ x. omega arith) (λ x. omega arith)
          (last (endpoints_ok t) 5 (λ x. omega arith) (endpoints-say t)));
    }
