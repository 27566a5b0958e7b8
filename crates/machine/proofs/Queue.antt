-- Laws of an endpoint's twelve words (specs/Queue): what a send and a receive leave of the words, the counts and the
-- messages, and that sound words (specs/Check) stay sound. No law here depends on the rest of the table.
-- Assumes nothing.
use mathlib.Core.Path.{◌≡◌, refl, sym, ap, subst, ◌∙◌}
use mathlib.Core.Logic.{◌≢◌, ⊎_elim}
use mathlib.Core.Bool.{Bool, true, false, ◌&&◌, ◌||◌}
use mathlib.Core.List.{List, [], ◌∷◌, ◌++◌, map, map-append}
use Prim.Native.Nat.{ℕ, suc, ◌+◌, ◌-◌, ◌<◌, ◌≤◌, min}
use native.Mathlib.Decide.{dec_lt, ℕ_discrete}
use native.Mathlib.Numerals.{add-one}
use native.Mathlib.Omega.{arith}
use borrow.Author.Tests.{ltb-true, ltb-false, leb-true, eqb-true, lt-ltb, le-leb, eq-eqb}
use lib.Dec.{eqb, leb, ltb}
use lib.ListN.{length, get_or, take, drop, set, length-set, length-take, length-drop, length-append, get_or-append}
use lib.Seq.{lt-length-set, get_or-set_same, get_or-set_other, take-set-le, drop-set-lt, drop-set-add, take-suc-set, length-take-le, get_or-take, get_or-drop, take-append-le, take-take, take_at, drop_at, drop-cons, get_or-append-add, get_or_at}
use Rattle.machine.specs.Below.{all_below}
use Rattle.machine.specs.Word.{kind, payload, most_payload, word}
use Rattle.machine.specs.Queue.{name, owner, capacity, waiting, lost, oldest, empty_slot, most_lost, has_space, send_with_space, send_to_full, sent, moved_up, received}
use Rattle.machine.specs.Check.{waiting_word_ok, lost_word_ok, slot_word_ok, identity_ok, queue_ok, endpoint_ok}
use Rattle.machine.specs.Call.{Call, second_payload, Call.one, Call.two}
use Rattle.machine.specs.Counts.{messages}
use Rattle.machine.proofs.Bools.{and_left, and_right, and_intro, or_cases, cond-elim}
use Rattle.machine.proofs.Below.{all-at, all_of}
use Rattle.machine.proofs.Accepted.{info-of}

-- a word gives back the kind and the payload that it was made of
pub kind-word : (k p : ℕ) → p ≤ most_payload → kind (word k p) ≡ k
kind-word k p h = omega arith

pub payload-word : (k p : ℕ) → p ≤ most_payload → payload (word k p) ≡ p
payload-word k p h = omega arith

-- ---- sound words: what the test of an endpoint's queue says, word by word

-- slot i while count messages wait
pub record Slot (count i w : ℕ) : Type 0 where
  pub is_slot : kind w ≡ 15
  pub empty : count ≤ i → w ≡ empty_slot

pub slot_of : (count i w : ℕ) → slot_word_ok count i w ≡ true → Slot count i w
unfolding slot_word_ok
slot_of count i w h =
    record {
      is_slot = eqb-true _ _ (and_left (eqb (kind w) 15) (ltb i count || eqb w empty_slot) h);
      empty =
          λ b.
          ⊎_elim (λ x. absurd (omega (arith, ltb-true i count x))) (λ x. eqb-true _ _ x)
          (or_cases (ltb i count) (eqb w empty_slot) (and_right (eqb (kind w) 15) (ltb i count || eqb w empty_slot) h));
    }

pub slot_ok : (count i w : ℕ) → Slot count i w → slot_word_ok count i w ≡ true
unfolding slot_word_ok
slot_ok count i w s = and_intro (eq-eqb _ _ s.is_slot) (go (ltb i count) refl)
  where
    go : (b : Bool) → ltb i count ≡ b → (b || eqb w empty_slot) ≡ true
    go true e = refl
    go false e = eq-eqb _ _ (s.empty (ltb-false i count e))

pub record Sound (q : List ℕ) : Type 0 where
  pub is_waiting : kind (get_or q 2 0) ≡ 5
  pub fits : waiting q ≤ capacity q
  pub is_lost : kind (get_or q 3 0) ≡ 6
  pub slots : (i : ℕ) → i < 8 → Slot (waiting q) i (get_or q (4 + i) 0)

pub sound-of : (q : List ℕ) → queue_ok q ≡ true → Sound q
unfolding queue_ok waiting_word_ok lost_word_ok waiting
sound-of q h =
    let counts = and_left (waits && loses) (all_below 8 slot) h in
    let w = and_left waits loses counts in
    record {
      is_waiting = eqb-true _ _ (and_left (eqb (kind (get_or q 2 0)) 5) (leb (waiting q) (capacity q)) w);
      fits = leb-true _ _ (and_right (eqb (kind (get_or q 2 0)) 5) (leb (waiting q) (capacity q)) w);
      is_lost = eqb-true _ _ (and_right waits loses counts);
      slots = λ i l. slot_of _ i _ (all-at 8 slot (and_right (waits && loses) (all_below 8 slot) h) i l);
    }
  where
    waits : Bool
    waits = waiting_word_ok (capacity q) (get_or q 2 0)

    loses : Bool
    loses = lost_word_ok (get_or q 3 0)

    slot : ℕ → Bool
    slot i = slot_word_ok (waiting q) i (get_or q (4 + i) 0)

pub queue-ok : (q : List ℕ) → Sound q → queue_ok q ≡ true
unfolding queue_ok waiting_word_ok lost_word_ok waiting
queue-ok q s =
    and_intro (and_intro (and_intro (eq-eqb _ _ s.is_waiting) (le-leb _ _ s.fits)) (eq-eqb _ _ s.is_lost))
    (all_of 8 _ (λ i l. slot_ok (waiting q) i (get_or q (4 + i) 0) (s.slots i l)))

-- ---- the name, the owner and the capacity are in the first two words
identity-word : (p q : List ℕ) → take 2 p ≡ take 2 q → (k : ℕ) → k < 2 → get_or p k 0 ≡ get_or q k 0
identity-word p q e k h = sym (get_or-take 2 p k 0 h) ∙ ap (λ (l : List ℕ). get_or l k 0) e ∙ get_or-take 2 q k 0 h

module _ (p q : List ℕ) (same : take 2 p ≡ take 2 q) where
  pub name-kept : name p ≡ name q
  unfolding name
  name-kept = rw (identity-word p q same 0 (omega arith))

  pub owner-kept : owner p ≡ owner q
  unfolding owner
  owner-kept = rw (identity-word p q same 1 (omega arith))

  pub capacity-kept : capacity p ≡ capacity q
  unfolding capacity
  capacity-kept = rw (identity-word p q same 1 (omega arith))

  pub identity-kept : (n : ℕ) → identity_ok n p ≡ identity_ok n q
  unfolding identity_ok
  identity-kept n = rw (identity-word p q same 0 (omega arith), identity-word p q same 1 (omega arith))

-- a lost count is a payload, so it fits a word
pub lost-small : (q : List ℕ) → lost q ≤ most_lost
unfolding lost
lost-small q = omega arith

-- an endpoint that passes its test has at most eight messages waiting
pub endpoint-sound : (n : ℕ) (q : List ℕ) → endpoint_ok n q ≡ true → Sound q
unfolding endpoint_ok
endpoint-sound n q h = sound-of q (and_right (identity_ok n q) (queue_ok q) h)

pub waiting-most : (n : ℕ) (q : List ℕ) → endpoint_ok n q ≡ true → waiting q ≤ 8
waiting-most n q h = omega (arith, (endpoint-sound n q h).fits, info-of n q h)

-- a call's message fits a word
pub message-small : (c : Call) → second_payload c ≤ most_payload
unfolding second_payload
message-small (one w) = omega arith
message-small (two w v) = omega arith

-- ---- a send that finds space
module _ (q : List ℕ) (twelve : length q ≡ 12) (m : ℕ) where
  pub send_with_space-length : length (send_with_space q m) ≡ 12
  unfolding send_with_space
  send_with_space-length = simp length-set twelve

  -- its words: the waiting count, the slot at the old one, and every other
  pub send_with_space-count : get_or (send_with_space q m) 2 0 ≡ word 5 (waiting q + 1)
  unfolding send_with_space
  send_with_space-count = let b : 2 < length q = omega arith in simp (get_or-set_same, lt-length-set) (omega arith)

  pub send_with_space-other : (k : ℕ) → k ≢ 2 → k ≢ 4 + waiting q → get_or (send_with_space q m) k 0 ≡ get_or q k 0
  unfolding send_with_space
  send_with_space-other k a b = simp get_or-set_other

  pub send_with_space-slot : waiting q < 8 → get_or (send_with_space q m) (4 + waiting q) 0 ≡ word 15 m
  unfolding send_with_space
  send_with_space-slot b =
      let apart : 4 + waiting q ≢ 2 = omega arith in
      let inside : 4 + waiting q < length q = omega arith in
      simp (get_or-set_other, get_or-set_same)

  pub send_with_space-identity : take 2 (send_with_space q m) ≡ take 2 q
  unfolding send_with_space
  send_with_space-identity =
      let a : 2 ≤ 2 = omega arith in
      let b : 2 ≤ 4 + waiting q = omega arith in
      simp take-set-le

  pub send_with_space-waiting : waiting q < 8 → waiting (send_with_space q m) ≡ waiting q + 1
  unfolding waiting
  send_with_space-waiting b = ap payload send_with_space-count ∙ payload-word 5 (waiting q + 1) (omega arith)

  pub send_with_space-lost : lost (send_with_space q m) ≡ lost q
  unfolding lost
  send_with_space-lost = ap payload (send_with_space-other 3 (omega arith) (omega arith))

  pub send_with_space-slots : m ≤ most_payload → waiting q < 8 → Sound q → (i : ℕ) → i < 8 → Slot (waiting q + 1) i (get_or (send_with_space q m) (4 + i) 0)
  send_with_space-slots small b s i l = go (ℕ_discrete i (waiting q))
    where
      go : Dec (i ≡ waiting q) → Slot (waiting q + 1) i (get_or (send_with_space q m) (4 + i) 0)
      go (yes e) =
          subst (λ (x : ℕ). Slot (waiting q + 1) x (get_or (send_with_space q m) (4 + x) 0)) (sym e)
          (rw (send_with_space-slot b) (record { is_slot = kind-word 15 m small; empty = λ a. absurd (omega arith) }))
      go (no n) =
          rw (send_with_space-other (4 + i) (omega arith) (omega arith))
          (record { is_slot = (s.slots i l).is_slot; empty = λ a. (s.slots i l).empty (omega arith) })

  pub send_with_space-sound : m ≤ most_payload → capacity q ≤ 8 → has_space q ≡ true → Sound q → Sound (send_with_space q m)
  unfolding has_space
  send_with_space-sound small most space s =
      let b : waiting q < capacity q = ltb-true _ _ space in
      record {
        is_waiting = ap kind send_with_space-count ∙ kind-word 5 (waiting q + 1) (omega arith);
        fits =
            rw (send_with_space-waiting (omega arith), capacity-kept (send_with_space q m) q send_with_space-identity) (omega arith);
        is_lost = ap kind (send_with_space-other 3 (omega arith) (omega arith)) ∙ s.is_lost;
        slots = λ i l. rw (send_with_space-waiting (omega arith)) (send_with_space-slots small (omega arith) s i l);
      }

  pub send_with_space-drop : drop 4 (send_with_space q m) ≡ set (drop 4 q) (waiting q) (word 15 m)
  unfolding send_with_space
  send_with_space-drop = let b : 2 < 4 = omega arith in rw (drop-set-lt, drop-set-add)

  -- the message goes last
  pub send_with_space-messages : m ≤ most_payload → waiting q < 8 → messages (send_with_space q m) ≡ messages q ++ (m ∷ [])
  unfolding messages
  send_with_space-messages small b =
      rw (send_with_space-waiting b, add-one, send_with_space-drop)
      (ap (map payload) (take-suc-set (drop 4 q) (waiting q) (word 15 m) (simp length-drop (omega arith)))
      ∙ map-append payload (take (waiting q) (drop 4 q)) (word 15 m ∷ [])
      ∙ ap (λ (x : ℕ). messages q ++ (x ∷ [])) (payload-word 15 m small))

-- ---- the lost count written alone
abbrev with_lost : List ℕ → ℕ → List ℕ
with_lost q n = set q 3 (word 6 n)

module _ (q : List ℕ) (twelve : length q ≡ 12) (n : ℕ) where
  with_lost-identity : take 2 (with_lost q n) ≡ take 2 q
  with_lost-identity = take-set-le 2 q 3 _ (omega arith)

  -- its words: the lost count, and every other
  with_lost-count : get_or (with_lost q n) 3 0 ≡ word 6 n
  with_lost-count = get_or-set_same q 3 _ 0 (omega arith)

  with_lost-other : (k : ℕ) → k ≢ 3 → get_or (with_lost q n) k 0 ≡ get_or q k 0
  with_lost-other k a = simp get_or-set_other

  with_lost-waiting : waiting (with_lost q n) ≡ waiting q
  unfolding waiting
  with_lost-waiting = ap payload (with_lost-other 2 (omega arith))

  with_lost-sound : n ≤ most_lost → Sound q → Sound (with_lost q n)
  with_lost-sound small s =
      record {
        is_waiting = ap kind (with_lost-other 2 (omega arith)) ∙ s.is_waiting;
        fits = rw (with_lost-waiting, capacity-kept (with_lost q n) q with_lost-identity) s.fits;
        is_lost = ap kind with_lost-count ∙ kind-word 6 n small;
        slots = λ i l. rw (with_lost-waiting, with_lost-other (4 + i) (omega arith)) (s.slots i l);
      }

  -- no message is added or taken out
  with_lost-messages : messages (with_lost q n) ≡ messages q
  unfolding messages
  with_lost-messages = rw with_lost-waiting (ap (λ (l : List ℕ). map payload (take (waiting q) l)) (drop-set-lt 4 q 3 _ (omega arith)))

-- ---- a receive, of any twelve words with 1 to 8 messages waiting
module _ (q : List ℕ) (twelve : length q ≡ 12) (some : waiting q ≢ 0) (most : waiting q ≤ 8) where
  head-length : length (take 4 q) ≡ 4
  head-length = length-take-le 4 q (omega arith)

  moved_length : length (take (waiting q - 1) (drop 5 q)) ≡ waiting q - 1
  moved_length = length-take-le (waiting q - 1) (drop 5 q) (simp length-drop (omega arith))

  pub moved_up-length : length (moved_up q (waiting q)) ≡ 12
  unfolding moved_up
  moved_up-length = simp (length-append, length-take, length-drop) (omega arith)

  pub received-length : length (received q) ≡ 12
  unfolding received
  received-length = simp length-set moved_up-length

  pub received-identity : take 2 (received q) ≡ take 2 q
  unfolding received moved_up
  received-identity =
      take-set-le 2 (moved_up q (waiting q)) 2 _ (omega arith)
      ∙ take-append-le 2 (take 4 q) _ (omega (arith, head-length))
      ∙ take-take 2 4 q (omega arith)

  -- its words: the waiting count, the others before the slots, the slots that moved up, the one that became free, and the
  -- rest
  pub received-count : get_or (received q) 2 0 ≡ word 5 (waiting q - 1)
  unfolding received
  received-count = get_or-set_same (moved_up q (waiting q)) 2 _ 0 (omega (arith, moved_up-length)) ∙ omega arith

  pub received-before : (k : ℕ) → k ≢ 2 → k < 4 → get_or (received q) k 0 ≡ get_or q k 0
  unfolding received moved_up
  received-before k a b =
      get_or-set_other (moved_up q (waiting q)) 2 k _ 0 a
      ∙ get_or-append (take 4 q) _ 0 k (omega (arith, head-length))
      ∙ get_or-take 4 q k 0 b

  pub received-drop : drop 4 (received q) ≡ take (waiting q - 1) (drop 5 q) ++ (empty_slot ∷ drop (4 + waiting q) q)
  unfolding received moved_up
  received-drop = drop-set-lt 4 (moved_up q (waiting q)) 2 _ (omega arith) ∙ drop_at (take 4 q) _ 4 head-length

  pub received-slot : (i : ℕ) → get_or (received q) (4 + i) 0 ≡ get_or (take (waiting q - 1) (drop 5 q) ++ (empty_slot ∷ drop (4 + waiting q) q)) i 0
  received-slot i = sym (get_or-drop 4 (received q) i 0) ∙ ap (λ (l : List ℕ). get_or l i 0) received-drop

  pub received-moved : (i : ℕ) → i < waiting q - 1 → get_or (received q) (4 + i) 0 ≡ get_or q (4 + (i + 1)) 0
  received-moved i b =
      received-slot i
      ∙ get_or-append (take (waiting q - 1) (drop 5 q)) _ 0 i (omega (arith, moved_length))
      ∙ get_or-take (waiting q - 1) (drop 5 q) i 0 b
      ∙ get_or-drop 5 q i 0
      ∙ ap (λ (k : ℕ). get_or q k 0) (omega arith)

  pub received-freed : get_or (received q) (4 + (waiting q - 1)) 0 ≡ empty_slot
  received-freed = received-slot (waiting q - 1) ∙ get_or_at (take (waiting q - 1) (drop 5 q)) empty_slot _ 0 (waiting q - 1) moved_length

  pub received-stays : (i : ℕ) → waiting q ≤ i → get_or (received q) (4 + i) 0 ≡ get_or q (4 + i) 0
  received-stays i b =
      received-slot i
      ∙ ap (λ (k : ℕ). get_or (take (waiting q - 1) (drop 5 q) ++ (empty_slot ∷ drop (4 + waiting q) q)) k 0) (omega (arith, moved_length))
      ∙ get_or-append-add (take (waiting q - 1) (drop 5 q)) (empty_slot ∷ drop (4 + waiting q) q) (suc (i - waiting q)) 0
      ∙ get_or-drop (4 + waiting q) q (i - waiting q) 0
      ∙ ap (λ (k : ℕ). get_or q k 0) (omega arith)

  pub received-waiting : waiting (received q) ≡ waiting q - 1
  unfolding waiting
  received-waiting = ap payload received-count ∙ payload-word 5 (waiting q - 1) (omega arith)

  pub received-lost : lost (received q) ≡ lost q
  unfolding lost
  received-lost = ap payload (received-before 3 (omega arith) (omega arith))

  pub received-slots : Sound q → (i : ℕ) → i < 8 → Slot (waiting q - 1) i (get_or (received q) (4 + i) 0)
  received-slots s i l = go (dec_lt i (waiting q - 1)) (ℕ_discrete i (waiting q - 1))
    where
      go : Dec (i < waiting q - 1) → Dec (i ≡ waiting q - 1) → Slot (waiting q - 1) i (get_or (received q) (4 + i) 0)
      go (yes b) d =
          rw (received-moved i b) (record { is_slot = (s.slots (i + 1) (omega arith)).is_slot; empty = λ a. absurd (omega arith) })
      go (no n) (yes e) = rw (e, received-freed) (record { is_slot = refl; empty = λ a. refl })
      go (no n) (no ne) =
          rw (received-stays i (omega arith))
          (record { is_slot = (s.slots i l).is_slot; empty = λ a. (s.slots i l).empty (omega arith) })

  pub received-sound : Sound q → Sound (received q)
  received-sound s =
      record {
        is_waiting = ap kind received-count ∙ kind-word 5 (waiting q - 1) (omega arith);
        fits = rw (received-waiting, capacity-kept (received q) q received-identity) (omega (arith, s.fits));
        is_lost = ap kind (received-before 3 (omega arith) (omega arith)) ∙ s.is_lost;
        slots = λ i l. rw received-waiting (received-slots s i l);
      }

  -- the oldest message leaves
  pub received-messages : oldest q ∷ messages (received q) ≡ messages q
  unfolding messages oldest
  received-messages =
      let all : suc (waiting q - 1) ≡ waiting q = omega arith in
      rw (received-waiting, received-drop, take_at (take (waiting q - 1) (drop 5 q)) _ (waiting q - 1) moved_length)
      (ap (λ (k : ℕ). map payload (take k (get_or q 4 0 ∷ drop 5 q))) all
      ∙ ap (λ (l : List ℕ). map payload (take (waiting q) l)) (sym (drop-cons q 4 0 (omega arith))))

-- ---- a send to a full queue, of any twelve words with 1 to 8 messages waiting: a receive, a send with the space that it
-- makes, and the lost count
module _ (q : List ℕ) (twelve : length q ≡ 12) (some : waiting q ≢ 0) (most : waiting q ≤ 8) (m : ℕ) where
  after-receive : length (received q) ≡ 12
  after-receive = received-length q twelve some most

  room : waiting (received q) < 8
  room = omega (arith, received-waiting q twelve some most)

  after-send : length (send_with_space (received q) m) ≡ 12
  after-send = send_with_space-length (received q) after-receive m

  -- the oldest message leaves, and the newcomer goes last
  pub send_to_full-messages : m ≤ most_payload → oldest q ∷ messages (send_to_full q m) ≡ messages q ++ (m ∷ [])
  unfolding send_to_full
  send_to_full-messages small =
      ap (λ (l : List ℕ). oldest q ∷ l) (with_lost-messages _ after-send _ ∙ send_with_space-messages _ after-receive m small room)
      ∙ ap (λ (l : List ℕ). l ++ (m ∷ [])) (received-messages q twelve some most)

  pub send_to_full-waiting : waiting (send_to_full q m) ≡ waiting q
  unfolding send_to_full
  send_to_full-waiting =
      with_lost-waiting _ after-send _
      ∙ send_with_space-waiting _ after-receive m room
      ∙ omega (arith, received-waiting q twelve some most)

  pub send_to_full-lost : lost (send_to_full q m) ≡ min (lost q + 1) most_lost
  unfolding send_to_full lost
  send_to_full-lost =
      ap payload (with_lost-count (send_with_space (received q) m) after-send _)
      ∙ payload-word 6 (min (lost q + 1) most_lost) (omega arith)

  -- its words: the lost count, the waiting count, the slot of the newcomer, and every other as after a receive
  pub send_to_full-lost-word : get_or (send_to_full q m) 3 0 ≡ word 6 (min (lost q + 1) most_lost)
  unfolding send_to_full
  send_to_full-lost-word = with_lost-count (send_with_space (received q) m) after-send _

  send_to_full-before-lost : (k : ℕ) → k ≢ 3 → get_or (send_to_full q m) k 0 ≡ get_or (send_with_space (received q) m) k 0
  unfolding send_to_full
  send_to_full-before-lost k a = with_lost-other (send_with_space (received q) m) after-send (min (lost q + 1) most_lost) k a

  pub send_to_full-count : get_or (send_to_full q m) 2 0 ≡ word 5 (waiting q)
  send_to_full-count =
      let same : waiting (received q) + 1 ≡ waiting q = omega (arith, received-waiting q twelve some most) in
      send_to_full-before-lost 2 (omega arith) ∙ send_with_space-count (received q) after-receive m ∙ ap (word 5) same

  pub send_to_full-newcomer : get_or (send_to_full q m) (3 + waiting q) 0 ≡ word 15 m
  send_to_full-newcomer =
      let last : 3 + waiting q ≡ 4 + waiting (received q) = omega (arith, received-waiting q twelve some most) in
      send_to_full-before-lost (3 + waiting q) (omega arith)
      ∙ ap (λ (k : ℕ). get_or (send_with_space (received q) m) k 0) last
      ∙ send_with_space-slot (received q) after-receive m room

  pub send_to_full-other : (k : ℕ) → k ≢ 2 → k ≢ 3 → k ≢ 3 + waiting q → get_or (send_to_full q m) k 0 ≡ get_or (received q) k 0
  send_to_full-other k a b c =
      let last : 4 + waiting (received q) ≡ 3 + waiting q = omega (arith, received-waiting q twelve some most) in
      send_to_full-before-lost k b ∙ send_with_space-other (received q) after-receive m k a (λ e. c (e ∙ last))

  pub send_to_full-length : length (send_to_full q m) ≡ 12
  unfolding send_to_full
  send_to_full-length = simp length-set after-send

  pub send_to_full-identity : take 2 (send_to_full q m) ≡ take 2 q
  unfolding send_to_full
  send_to_full-identity =
      with_lost-identity (send_with_space (received q) m) after-send _
      ∙ send_with_space-identity (received q) after-receive m
      ∙ received-identity q twelve some most

  pub send_to_full-sound : m ≤ most_payload → capacity q ≤ 8 → Sound q → Sound (send_to_full q m)
  unfolding send_to_full has_space
  send_to_full-sound small slots s =
      let same = capacity-kept (received q) q (received-identity q twelve some most) in
      let space : waiting (received q) < capacity (received q) = omega (arith, received-waiting q twelve some most, same, s.fits) in
      with_lost-sound _ after-send _ (omega arith)
      (send_with_space-sound _ after-receive m small (omega arith) (lt-ltb _ _ space) (received-sound q twelve some most s))

-- ---- a send, with space or without, to an endpoint that passes its test
module _ (n : ℕ) (q : List ℕ) (twelve : length q ≡ 12) (ok : endpoint_ok n q ≡ true) (m : ℕ) where
  most : waiting q ≤ 8
  most = waiting-most n q ok

  -- what holds of both sends holds of a send: with space there is a slot left, and in a full queue there is an oldest message
  pub sent-elim : (P : List ℕ → Type 0) → (has_space q ≡ true → waiting q < 8 → P (send_with_space q m)) → (has_space q ≡ false → waiting q ≢ 0 → P (send_to_full q m)) → P (sent q m)
  unfolding sent has_space
  sent-elim P f g =
      cond-elim P (has_space q)
      (λ b. f b (omega (arith, ltb-true (waiting q) (capacity q) b, info-of n q ok)))
      (λ b. g b (λ none. omega (arith, ltb-false (waiting q) (capacity q) b, info-of n q ok)))

  pub sent-length : length (sent q m) ≡ 12
  sent-length = sent-elim (λ p. length p ≡ 12) (λ _ _. send_with_space-length q twelve m) (λ _ some. send_to_full-length q twelve some most m)

  pub sent-identity : take 2 (sent q m) ≡ take 2 q
  sent-identity = sent-elim (λ p. take 2 p ≡ take 2 q) (λ _ _. send_with_space-identity q twelve m) (λ _ some. send_to_full-identity q twelve some most m)

  pub sent-sound : m ≤ most_payload → Sound (sent q m)
  sent-sound small =
      let s = endpoint-sound n q ok in
      let slots = (info-of n q ok).2 in
      sent-elim Sound (λ b _. send_with_space-sound q twelve m small slots b s) (λ _ some. send_to_full-sound q twelve some most m small slots s)

-- ---- an endpoint's test is kept by what keeps its first two words and leaves sound ones
endpoint-kept : (n : ℕ) (p q : List ℕ) → take 2 p ≡ take 2 q → Sound p → endpoint_ok n q ≡ true → endpoint_ok n p ≡ true
unfolding endpoint_ok
endpoint-kept n p q same s h =
    and_intro (identity-kept p q same n ∙ and_left (identity_ok n q) (queue_ok q) h) (queue-ok p s)

pub sent-ok : (n : ℕ) (q : List ℕ) (m : ℕ) → length q ≡ 12 → m ≤ most_payload → endpoint_ok n q ≡ true → endpoint_ok n (sent q m) ≡ true
sent-ok n q m twelve small h =
    endpoint-kept n (sent q m) q (sent-identity n q twelve h m) (sent-sound n q twelve h m small) h

pub received-ok : (n : ℕ) (q : List ℕ) → length q ≡ 12 → waiting q ≢ 0 → endpoint_ok n q ≡ true → endpoint_ok n (received q) ≡ true
received-ok n q twelve some h =
    let most = waiting-most n q h in
    endpoint-kept n (received q) q (received-identity q twelve some most)
    (received-sound q twelve some most (endpoint-sound n q h)) h
