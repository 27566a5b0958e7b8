-- A ring that represents a queue (specs/Claims): a loaded ring is one, sends and receives on it simulate those on the queue, and
-- stored it is the queue. Assumes nothing.
use mathlib.Core.Path.{◌≡◌, refl, sym, ap, ap₂, subst, ◌∙◌}
use mathlib.Core.Logic.{◌≢◌, ⊎_elim}
use mathlib.Core.Bool.{Bool, true, false, cond}
use mathlib.Core.List.{List, [], ◌∷◌, ◌++◌, append_assoc}
use Prim.Native.Nat.{ℕ, ◌+◌, ◌-◌, ◌%◌, ◌<◌, ◌≤◌, min}
use native.Mathlib.Omega.{arith}
use lib.Dec.{ltb}
use lib.ListN.{length, get_or, take, set, length-set}
use lib.Seq.{get_or-set_same, get_or-set_other, lt-length-set, get_or-append-add, take-add, drop-cons}
use borrow.Author.Tests.{ltb-true, ltb-false}
use Rattle.machine.specs.Below.{words_below}
use Rattle.machine.specs.Word.{kind, payload, most_payload, word, field_c}
use Rattle.machine.specs.Queue.{capacity, waiting, lost, most_lost, empty_slot, has_space, send_with_space, send_to_full, sent, received}
use Rattle.machine.proofs.Below.{below-or-last, words-length, words-at}
use Rattle.machine.proofs.Queue.{payload-word, Sound, sound-of, send_with_space-waiting, send_with_space-lost, send_with_space-other, send_with_space-slot, received-waiting, received-lost, received-before, received-moved, received-length, send_to_full-waiting, send_to_full-lost}
use Rattle.ring_theory.specs.Ring.{first_place, count, lost_count, info, ring_capacity, place_from, message_at, put_last, ring_sent, ring_take, ring_of, stored_slot, stored_queue}
use Rattle.ring_theory.proofs.Filled.{Filled, fill_end}
use Rattle.ring_theory.specs.Claims.{RepresentsQueue, LoadedRingRepresents, QueuesSimulate, StoreIsQueue}

-- a message by the first place
message-from : (r : List ℕ) (f i : ℕ) → first_place r ≡ f → message_at r i ≡ get_or r (place_from f i) 0
unfolding message_at
message-from r f i e = ap (λ (x : ℕ). get_or r (place_from x i) 0) e

-- two words written one after the other
module _ (xs : List ℕ) (i j x y : ℕ) where
  both-other : (k : ℕ) → k ≢ i → k ≢ j → get_or (set (set xs i x) j y) k 0 ≡ get_or xs k 0
  both-other k a b = get_or-set_other (set xs i x) j k y 0 b ∙ get_or-set_other xs i k x 0 a

  both_first : i ≢ j → i < length xs → get_or (set (set xs i x) j y) i 0 ≡ x
  both_first ne l = get_or-set_other (set xs i x) j i y 0 ne ∙ get_or-set_same xs i x 0 l

  both-last : j < length xs → get_or (set (set xs i x) j y) j 0 ≡ y
  both-last l = get_or-set_same (set xs i x) j y 0 (lt-length-set xs i x l)

-- ---- a loaded ring
pub loaded-ring-represents : LoadedRingRepresents
unfolding ring_of first_place count lost_count info message_at
loaded-ring-represents q most =
    record {
      twelve = omega (arith, words-length 8 (λ i. payload (get_or q (4 + i) 0)));
      place = omega arith;
      most = most;
      same_count = refl;
      same_lost = refl;
      same_info = refl;
      messages =
          λ i l.
          let at : (0 + i) % 8 ≡ i = omega arith in
          ap (λ (k : ℕ). get_or (ring_of q) (4 + k) 0) at
          ∙ get_or-append-add (0 ∷ waiting q ∷ lost q ∷ get_or q 1 0 ∷ []) (words_below 8 (λ j. payload (get_or q (4 + j) 0))) i 0
          ∙ words-at 8 (λ j. payload (get_or q (4 + j) 0)) i 0 (omega arith);
    }

-- ---- a send and a receive
module _ (q r : List ℕ) (twelve : length q ≡ 12) (s : RepresentsQueue r q) where
  same-capacity : ring_capacity r ≡ capacity q
  unfolding ring_capacity capacity
  same-capacity = ap field_c s.same_info

  -- the place after the last message
  at : ℕ
  at = place_from (first_place r) (count r)

  module _ (m : ℕ) where
    put-at : get_or (put_last r m) at 0 ≡ m
    unfolding put_last at
    put-at = get_or-set_same r at m 0 (omega (arith, s.twelve))

    put_other : (k : ℕ) → k ≢ at → get_or (put_last r m) k 0 ≡ get_or r k 0
    unfolding put_last at
    put_other k ne = get_or-set_other r at k m 0 ne

    put-length : length (put_last r m) ≡ 12
    unfolding put_last
    put-length = length-set r _ m ∙ s.twelve

    -- the counts and the info aren't among the places
    put_count : (k : ℕ) → k < 4 → get_or (put_last r m) k 0 ≡ get_or r k 0
    unfolding at
    put_count k l = put_other k (λ e. omega arith)

    module _ (small : m ≤ most_payload) where
      -- with space
      spaced : List ℕ
      spaced = set (put_last r m) 1 (count r + 1)

      spaced-other : (k : ℕ) → k ≢ 1 → get_or spaced k 0 ≡ get_or (put_last r m) k 0
      unfolding spaced
      spaced-other k ne = get_or-set_other (put_last r m) 1 k _ 0 ne

      spaced-first : first_place spaced ≡ first_place r
      unfolding first_place
      spaced-first = spaced-other 0 (omega arith) ∙ put_count 0 (omega arith)

      -- the old messages stay where they are, and the new message is the last
      spaced-message : waiting q < 8 → (i : ℕ) → i < count r + 1 → message_at spaced i ≡ payload (get_or (send_with_space q m) (4 + i) 0)
      unfolding at
      spaced-message room i l =
          let f = first_place r in
          message-from spaced f i spaced-first
          ∙ spaced-other (place_from f i) (omega arith)
          ∙ ⊎_elim
          (λ b.
          put_other (place_from f i) (λ e. omega (arith, s.most, s.same_count))
          ∙ sym (message-from r f i refl)
          ∙ s.messages i b
          ∙ ap payload (sym (send_with_space-other q twelve m (4 + i) (omega arith) (omega (arith, s.same_count)))))
          (λ e.
          ap (λ (k : ℕ). get_or (put_last r m) (place_from f k) 0) e
          ∙ put-at
          ∙ sym (payload-word 15 m small)
          ∙ ap payload (sym (send_with_space-slot q twelve m room))
          ∙ ap (λ (k : ℕ). payload (get_or (send_with_space q m) (4 + k) 0)) (omega (arith, s.same_count)))
          (below-or-last (count r) i (omega arith))

      sent-space : waiting q < 8 → RepresentsQueue spaced (send_with_space q m)
      unfolding spaced count lost_count info
      sent-space room =
          let more : count spaced ≡ count r + 1 = get_or-set_same (put_last r m) 1 _ 0 (omega (arith, put-length)) in
          let wait = send_with_space-waiting q twelve m room in
          record {
            twelve = length-set (put_last r m) 1 _ ∙ put-length;
            place = omega (arith, spaced-first, s.place);
            most = omega (arith, more, s.same_count);
            same_count = omega (arith, more, s.same_count, wait);
            same_lost = spaced-other 2 (omega arith) ∙ put_count 2 (omega arith) ∙ s.same_lost ∙ sym (send_with_space-lost q twelve m);
            same_info =
                spaced-other 3 (omega arith)
                ∙ put_count 3 (omega arith)
                ∙ s.same_info
                ∙ sym (send_with_space-other q twelve m 1 (omega arith) (omega arith));
            messages = λ i l. spaced-message room i (omega (arith, more));
          }

      -- to a full queue
      module _ (some : waiting q ≢ 0) where
        full : List ℕ
        full = set (set (put_last r m) 0 ((first_place r + 1) % 8)) 2 (min (lost_count r + 1) most_lost)

        full-other : (k : ℕ) → k ≢ 0 → k ≢ 2 → get_or full k 0 ≡ get_or (put_last r m) k 0
        unfolding full
        full-other = both-other (put_last r m) 0 2 _ _

        full-first : first_place full ≡ (first_place r + 1) % 8
        unfolding full first_place
        full-first = both_first (put_last r m) 0 2 _ _ (omega arith) (omega (arith, put-length))

        -- the queue's words: the slots moved up, and the new message in the last
        up : waiting q ≤ 8
        up = omega (arith, s.most, s.same_count)

        rest : length (received q) ≡ 12
        rest = received-length q twelve some up

        fewer : waiting (received q) ≡ waiting q - 1
        fewer = received-waiting q twelve some up

        slot_kept : (k : ℕ) → k ≢ 3 → get_or (send_to_full q m) k 0 ≡ get_or (send_with_space (received q) m) k 0
        unfolding send_to_full
        slot_kept k ne = get_or-set_other (send_with_space (received q) m) 3 k _ 0 ne

        full-message : (i : ℕ) → i < count r → message_at full i ≡ payload (get_or (send_to_full q m) (4 + i) 0)
        unfolding at
        full-message i l =
            let f = first_place r in
            let round : place_from ((f + 1) % 8) i ≡ place_from f (i + 1) = omega arith in
            message-from full _ i full-first
            ∙ full-other _ (omega arith) (omega arith)
            ∙ ap (λ (k : ℕ). get_or (put_last r m) k 0) round
            ∙ ⊎_elim
            (λ b.
            put_other (place_from f (i + 1)) (λ e. omega (arith, s.most))
            ∙ sym (message-from r f (i + 1) refl)
            ∙ s.messages (i + 1) (omega arith)
            ∙ ap payload
            (sym
            (slot_kept (4 + i) (omega arith)
            ∙ send_with_space-other (received q) rest m (4 + i) (omega arith) (omega (arith, fewer, s.same_count))
            ∙ received-moved q twelve some up i (omega (arith, s.same_count)))))
            (λ e.
            ap (λ (k : ℕ). get_or (put_last r m) (place_from f k) 0) e
            ∙ put-at
            ∙ sym (payload-word 15 m small)
            ∙ ap payload
            (sym
            (slot_kept (4 + i) (omega arith)
            ∙ ap (λ (k : ℕ). get_or (send_with_space (received q) m) (4 + k) 0) (omega (arith, fewer, s.same_count))
            ∙ send_with_space-slot (received q) rest m (omega (arith, fewer)))))
            (below-or-last (count r) (i + 1) (omega arith))

        sent-full : RepresentsQueue full (send_to_full q m)
        unfolding count lost_count info full
        sent-full =
            let same : count full ≡ count r = full-other 1 (omega arith) (omega arith) ∙ put_count 1 (omega arith) in
            record {
              twelve = simp length-set put-length;
              place = omega (arith, full-first);
              most = omega (arith, same, s.most);
              same_count = same ∙ s.same_count ∙ sym (send_to_full-waiting q twelve some up m);
              same_lost =
                  both-last (put_last r m) 0 2 _ _ (omega (arith, put-length))
                  ∙ ap (λ (x : ℕ). min (x + 1) most_lost) s.same_lost
                  ∙ sym (send_to_full-lost q twelve some up m);
              same_info =
                  full-other 3 (omega arith) (omega arith)
                  ∙ put_count 3 (omega arith)
                  ∙ s.same_info
                  ∙ sym
                  (slot_kept 1 (omega arith)
                  ∙ send_with_space-other (received q) rest m 1 (omega arith) (omega arith)
                  ∙ received-before q twelve some up 1 (omega arith) (omega arith));
              messages = λ i l. full-message i (omega (arith, same));
            }

  -- a receive
  module _ (some : waiting q ≢ 0) where
    most : waiting q ≤ 8
    most = omega (arith, s.most, s.same_count)

    taken-other : (k : ℕ) → k ≢ 0 → k ≢ 1 → get_or (ring_take r) k 0 ≡ get_or r k 0
    unfolding ring_take
    taken-other = both-other r 0 1 _ _

    taken-first : first_place (ring_take r) ≡ (first_place r + 1) % 8
    unfolding ring_take first_place
    taken-first = both_first r 0 1 _ _ (omega arith) (omega (arith, s.twelve))

    taken-count : count (ring_take r) ≡ count r - 1
    unfolding ring_take count
    taken-count = both-last r 0 1 _ _ (omega (arith, s.twelve))

    taken-message : (i : ℕ) → i < count r - 1 → message_at (ring_take r) i ≡ payload (get_or (received q) (4 + i) 0)
    taken-message i l =
        let f = first_place r in
        let round : place_from ((f + 1) % 8) i ≡ place_from f (i + 1) = omega arith in
        message-from (ring_take r) _ i taken-first
        ∙ taken-other _ (omega arith) (omega arith)
        ∙ ap (λ (k : ℕ). get_or r k 0) round
        ∙ sym (message-from r f (i + 1) refl)
        ∙ s.messages (i + 1) (omega arith)
        ∙ ap payload (sym (received-moved q twelve some most i (omega (arith, s.same_count))))

    receive-along : RepresentsQueue (ring_take r) (received q)
    unfolding lost_count info ring_take
    receive-along =
        record {
          twelve = simp length-set s.twelve;
          place = omega (arith, taken-first);
          most = omega (arith, taken-count, s.most);
          same_count = omega (arith, taken-count, s.same_count, received-waiting q twelve some most);
          same_lost = taken-other 2 (omega arith) (omega arith) ∙ s.same_lost ∙ sym (received-lost q twelve some most);
          same_info =
              taken-other 3 (omega arith) (omega arith)
              ∙ s.same_info
              ∙ sym (received-before q twelve some most 1 (omega arith) (omega arith));
          messages = λ i l. taken-message i (omega (arith, taken-count));
        }

  -- a ring has space where its queue has
  same-space : ltb (count r) (ring_capacity r) ≡ has_space q
  unfolding has_space
  same-space = ap₂ ltb s.same_count same-capacity

  send-along : 1 ≤ capacity q → capacity q ≤ 8 → (m : ℕ) → m ≤ most_payload → RepresentsQueue (ring_sent r m) (sent q m)
  unfolding ring_sent sent has_space spaced full
  send-along one slots m small =
      subst (λ (b : Bool). RepresentsQueue (cond b with-space to-full) (sent q m)) (sym same-space) (go (has_space q) refl)
    where
      with-space : List ℕ
      with-space = set (put_last r m) 1 (count r + 1)

      to-full : List ℕ
      to-full = set (set (put_last r m) 0 ((first_place r + 1) % 8)) 2 (min (lost_count r + 1) most_lost)

      go : (b : Bool) → has_space q ≡ b → RepresentsQueue (cond b with-space to-full) (cond b (send_with_space q m) (send_to_full q m))
      go true h = sent-space m small (omega (arith, ltb-true (waiting q) (capacity q) h))
      go false h = sent-full m small (λ none. omega (arith, ltb-false (waiting q) (capacity q) h))

pub queues-simulate : QueuesSimulate
queues-simulate q r twelve one slots s =
    (send-along q r twelve s one slots, λ some. receive-along q r twelve s (omega arith))

-- ---- a stored ring

-- a word is its kind and its payload
whole_word : (k w : ℕ) → kind w ≡ k → w ≡ word k (payload w)
whole_word k w is = omega arith

-- the first four words of twelve
first-four : (q : List ℕ) → length q ≡ 12 → take 4 q ≡ take 2 q ++ (get_or q 2 0 ∷ get_or q 3 0 ∷ [])
first-four q twelve =
    take-add 2 2 q
    ∙ ap (λ (l : List ℕ). take 2 q ++ take 2 l) (drop-cons q 2 0 (omega arith) ∙ ap (λ (l : List ℕ). get_or q 2 0 ∷ l) (drop-cons q 3 0 (omega arith)))

module _ (q r : List ℕ) (sound : Sound q) (s : RepresentsQueue r q) where
  store-slot : (i : ℕ) → i < 8 → get_or q (4 + i) 0 ≡ stored_slot r i
  unfolding stored_slot
  store-slot i l = go (ltb i (count r)) refl
    where
      go : (b : Bool) → ltb i (count r) ≡ b → get_or q (4 + i) 0 ≡ cond b (word 15 (payload (message_at r i))) empty_slot
      go true h =
          let less = ltb-true i (count r) h in
          whole_word 15 _ (sound.slots i l).is_slot
          ∙ ap (word 15) (sym (ap payload (s.messages i less) ∙ omega arith))
      go false h = (sound.slots i l).empty (omega (arith, ltb-false i (count r) h, s.same_count))

  count-out : get_or q 2 0 ≡ word 5 (payload (count r))
  unfolding waiting
  count-out = whole_word 5 _ sound.is_waiting ∙ ap (word 5) (sym (ap payload s.same_count ∙ omega arith))

  lost-out : get_or q 3 0 ≡ word 6 (payload (lost_count r))
  unfolding lost
  lost-out = whole_word 6 _ sound.is_lost ∙ ap (word 6) (sym (ap payload s.same_lost ∙ omega arith))

pub store-is-queue : StoreIsQueue
unfolding stored_queue
store-is-queue q₀ q r twelve₀ twelve same ok s =
    let sound = sound-of q ok in
    let all : Filled (stored_slot r) (take 4 q) q 8 = record { twelve = twelve; head = refl; each = store-slot q r sound s } in
    let out = word 5 (payload (count r)) ∷ word 6 (payload (lost_count r)) ∷ [] in
    sym
    (fill_end (stored_slot r) (take 4 q) q 8 all (omega arith)
    ∙ ap (λ (l : List ℕ). l ++ words_below 8 (stored_slot r))
    (first-four q twelve ∙ ap₂ (λ (l : List ℕ) (k : List ℕ). l ++ k) (sym same) (ap₂ (λ (x y : ℕ). x ∷ y ∷ []) (count-out q r sound s) (lost-out q r sound s)))
    ∙ append_assoc (take 2 q₀) out (words_below 8 (stored_slot r)))
