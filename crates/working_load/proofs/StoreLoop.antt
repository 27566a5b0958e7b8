-- The rings stored to a table, one after the other. Assumes nothing.
use mathlib.Core.Path.{◌≡◌, refl, sym, ap, ap₂, subst, ◌∙◌}
use mathlib.Core.Bool.{true, cond, ◌&&◌}
use mathlib.Core.List.{List, ◌∷◌, ◌++◌}
use Prim.Native.Nat.{ℕ, ◌+◌, ◌-◌, ◌*◌, ◌/◌, ◌%◌, ◌<◌, ◌≤◌}
use native.Mathlib.Nat.{add-sub_cancel_left}
use native.Mathlib.Decide.{dec_lt}
use native.Mathlib.Omega.{arith}
use lib.Dec.{leb, ltb}
use lib.ListN.{length, get_or, take, drop, length-append}
use lib.Seq.{ext_get_or, length-take-le}
use borrow.Author.Tests.{le-leb, lt-leb, lt-ltb, le-ltb}
use Rattle.machine.specs.Below.{words_below}
use Rattle.machine.specs.Word.{payload, word}
use Rattle.machine.specs.Table.{endpoint_at}
use Rattle.machine.proofs.Below.{words-length, words-at}
use Rattle.rights_matrix.proofs.Parts.{part_at, part_length, put_part, put-length, put-before, put_in, put-behind}
use Rattle.ring.specs.Ring.{count, lost_count, stored_slot, stored_queue, of_twelve}
use Rattle.ring.proofs.Words.{of-twelve}
use Rattle.working_theory.specs.State.{ring_at}
use Rattle.working_load.specs.Layout.{words_at, has_queues, is_queue, stored_queues}
use Rattle.working_load.proofs.Places.{HasQueues, words-within, words-lent}

-- word j after the rights words, as it is stored
abbrev word_out : ℕ → List ℕ → List ℕ → ℕ → ℕ
word_out n rings t j = get_or (stored_queue (ring_at rings (j / 12)) (words_at n t (j / 12))) (j % 12) 0

-- the rings of the first e endpoints are stored
pub record Out (n m : ℕ) (rings t₀ t : List ℕ) (e : ℕ) : Type 0 where
  pub size : length t ≡ length t₀
  pub before : (i : ℕ) → i < endpoint_at n 0 → get_or t i 0 ≡ get_or t₀ i 0
  pub done : (j : ℕ) → j < 12 * e → get_or t (endpoint_at n 0 + j) 0 ≡ word_out n rings t₀ j
  pub rest : (j : ℕ) → 12 * e ≤ j → get_or t (endpoint_at n 0 + j) 0 ≡ get_or t₀ (endpoint_at n 0 + j) 0

out-twelve : (r q : List ℕ) → length q ≡ 12 → length (stored_queue r q) ≡ 12
unfolding stored_queue
out-twelve r q twelve =
    length-append (take 2 q) (word 5 (payload (count r)) ∷ word 6 (payload (lost_count r)) ∷ words_below 8 (stored_slot r))
    ∙ omega (arith, length-take-le 2 q (omega arith), words-length 8 (stored_slot r))

module _ (n m : ℕ) (rings t₀ t : List ℕ) (e : ℕ) (s : Out n m rings t₀ t e) (has : HasQueues n m (length t₀) (length rings)) (l : e < m) where
  within : endpoint_at n e + 12 ≤ length t
  within = omega (arith, words-within n m (length t₀) (length rings) e has l, s.size)

  within₀ : endpoint_at n e + 12 ≤ length t₀
  within₀ = words-within n m (length t₀) (length rings) e has l

  -- the endpoint's words are still as they were
  same-words : words_at n t e ≡ words_at n t₀ e
  same-words =
      let now = part_length t (endpoint_at n e) 12 within in
      let then = part_length t₀ (endpoint_at n e) 12 within₀ in
      ext_get_or 0 (words_at n t e) (words_at n t₀ e) (now ∙ sym then)
      (λ i b.
      let below : i < 12 = omega (arith, now) in
      let at : endpoint_at n e + i ≡ endpoint_at n 0 + (12 * e + i) = omega arith in
      part_at t (endpoint_at n e) 12 i below
      ∙ ap (λ (k : ℕ). get_or t k 0) at
      ∙ s.rest (12 * e + i) (omega arith)
      ∙ ap (λ (k : ℕ). get_or t₀ k 0) (sym at)
      ∙ sym (part_at t₀ (endpoint_at n e) 12 i below))

  out-next : (q : List ℕ) → q ≡ stored_queue (ring_at rings e) (words_at n t₀ e) → Out n m rings t₀ (put_part t (endpoint_at n e) 12 q) (e + 1)
  out-next q is =
      record {
        size = put-length t (endpoint_at n e) 12 q within long ∙ s.size;
        before = λ i b. put-before t (endpoint_at n e) 12 q within long i (omega arith) ∙ s.before i b;
        done = λ j b. go j b (dec_lt j (12 * e));
        rest = λ j b. put-behind t (endpoint_at n e) 12 q within long (endpoint_at n 0 + j) (omega arith) ∙ s.rest j (omega arith);
      }
    where
      long : length q ≡ 12
      long = ap length is ∙ out-twelve (ring_at rings e) (words_at n t₀ e) (part_length t₀ (endpoint_at n e) 12 within₀)

      go : (j : ℕ) → j < 12 * (e + 1) → Dec (j < 12 * e) → get_or (put_part t (endpoint_at n e) 12 q) (endpoint_at n 0 + j) 0 ≡ word_out n rings t₀ j
      go j b (yes less) = put-before t (endpoint_at n e) 12 q within long (endpoint_at n 0 + j) (omega arith) ∙ s.done j less
      go j b (no past) =
          let k = j - 12 * e in
          let at : endpoint_at n 0 + j ≡ endpoint_at n e + k = omega arith in
          let ring : e ≡ j / 12 = omega arith in
          let place : k ≡ j % 12 = omega arith in
          ap (λ (i : ℕ). get_or (put_part t (endpoint_at n e) 12 q) i 0) at
          ∙ put_in t (endpoint_at n e) 12 q within long k (omega arith)
          ∙ ap (λ (x : List ℕ). get_or x k 0) is
          ∙ ap₂ (λ (x y : ℕ). get_or (stored_queue (ring_at rings x) (words_at n t₀ x)) y 0) ring place

  -- the same by the parts that were lent
  pub put_next :
      (at : ℕ)
      → at ≡ endpoint_at n e
      → (x : List ℕ)
      → x ≡ of_twelve (take (12 * e + 12 - 12 * e) (drop (12 * e) rings)) (of_twelve (take (at + 12 - at) (drop at t)) (stored_queue (take (12 * e + 12 - 12 * e) (drop (12 * e) rings)) (take (at + 12 - at) (drop at t))) (take (at + 12 - at) (drop at t))) (take (at + 12 - at) (drop at t))
      → Out n m rings t₀ (take at t ++ (x ++ drop (at + 12 - at) (drop at t))) (e + 1)
  put_next at is x made =
      let q = take (at + 12 - at) (drop at t) in
      let lent = take (12 * e + 12 - 12 * e) (drop (12 * e) rings) in
      let ring : lent ≡ ring_at rings e = ap (λ (k : ℕ). take k (drop (12 * e) rings)) (add-sub_cancel_left (12 * e) 12) in
      let twelve : length q ≡ 12 = ap length (words-lent t n e at is) ∙ part_length t (endpoint_at n e) 12 within in
      let long : length lent ≡ 12 = ap length ring ∙ part_length rings (12 * e) 12 (omega (arith, has.twelve)) in
      let out : x ≡ stored_queue (ring_at rings e) (words_at n t₀ e) =
      made
      ∙ sym (of-twelve lent _ q long refl)
      ∙ sym (of-twelve q (stored_queue lent q) q twelve refl)
      ∙ ap₂ stored_queue ring (words-lent t n e at is ∙ same-words) in
      subst (λ (y : List ℕ). Out n m rings t₀ y (e + 1))
      (ap₂ (λ (k i : ℕ). take i t ++ (x ++ drop k (drop i t))) (sym (add-sub_cancel_left at 12)) (sym is))
      (out-next x out)

-- every ring is stored
pub out-end : (n m : ℕ) (rings t₀ t : List ℕ) (e : ℕ) → Out n m rings t₀ t e → e ≡ m → t ≡ stored_queues n m rings t₀
unfolding stored_queues is_queue
out-end n m rings t₀ t e s all =
    ext_get_or 0 t (words_below (length t₀) f) (s.size ∙ sym (words-length (length t₀) f))
    (λ i l. at i (dec_lt i a) (dec_lt i (endpoint_at n m)) ∙ sym (words-at (length t₀) f i 0 (omega (arith, s.size))))
  where
    a : ℕ
    a = endpoint_at n 0

    f : ℕ → ℕ
    f i = cond (leb a i && ltb i (endpoint_at n m)) (word_out n rings t₀ (i - a)) (get_or t₀ i 0)

    at : (i : ℕ) → Dec (i < a) → Dec (i < endpoint_at n m) → get_or t i 0 ≡ f i
    at i (yes less) _ = s.before i less ∙ rw (lt-leb a i less)
    at i (no past) (yes l) =
        let back : i ≡ a + (i - a) = omega arith in
        ap (λ (k : ℕ). get_or t k 0) back
        ∙ s.done (i - a) (omega arith)
        ∙ rw (le-leb a i (omega arith), lt-ltb i (endpoint_at n m) l)
    at i (no past) (no end) =
        let back : i ≡ a + (i - a) = omega arith in
        ap (λ (k : ℕ). get_or t k 0) back
        ∙ s.rest (i - a) (omega arith)
        ∙ ap (λ (k : ℕ). get_or t₀ k 0) (sym back)
        ∙ rw (le-leb a i (omega arith), le-ltb i (endpoint_at n m) (omega arith))

-- the table with the rings stored, where the test holds
pub out-all : (n m : ℕ) (rings t x : List ℕ) → has_queues n m (length t) (length rings) ≡ true → x ≡ stored_queues n m rings t → x ≡ cond (has_queues n m (length t) (length rings)) (stored_queues n m rings t) t
out-all n m rings t x h e = rw h e
