-- The rings as they are loaded, one after the other. Assumes nothing.
use mathlib.Core.Path.{◌≡◌, refl, sym, ap, ap₂, subst, ◌∙◌}
use mathlib.Core.Bool.{true, cond}
use mathlib.Core.List.{List, ◌++◌}
use Prim.Native.Nat.{ℕ, ◌+◌, ◌-◌, ◌*◌, ◌/◌, ◌%◌, ◌<◌, ◌≤◌}
use native.Mathlib.Nat.{add-sub_cancel_left}
use native.Mathlib.Decide.{dec_lt}
use native.Mathlib.Omega.{arith}
use lib.ListN.{length, get_or, take, drop}
use lib.Seq.{ext_get_or}
use Rattle.machine.specs.Below.{words_below}
use Rattle.machine.specs.Word.{payload}
use Rattle.machine.specs.Table.{endpoint_at}
use Rattle.machine.proofs.Below.{words-length, words-at}
use Rattle.rights_matrix.proofs.Parts.{part_length, put_part, put-length, put-before, put_in}
use Rattle.ring.specs.Ring.{ring_of, of_twelve}
use Rattle.ring.proofs.Words.{of-twelve}
use Rattle.working_load.specs.Layout.{words_at, has_queues, rings_of}
use Rattle.working_load.proofs.Places.{HasQueues, words-within, words-lent}

-- the rings of the first e endpoints are loaded
pub record Taking (n m : ℕ) (t rings : List ℕ) (e : ℕ) : Type 0 where
  pub size : length rings ≡ 12 * m
  pub done : (i : ℕ) → i < 12 * e → get_or rings i 0 ≡ get_or (ring_of (words_at n t (i / 12))) (i % 12) 0

ring-twelve : (q : List ℕ) → length (ring_of q) ≡ 12
unfolding ring_of
ring-twelve q = omega (arith, words-length 8 (λ i. payload (get_or q (4 + i) 0)))

module _ (n m : ℕ) (t rings : List ℕ) (e : ℕ) (s : Taking n m t rings e) (l : e < m) where
  within : 12 * e + 12 ≤ length rings
  within = omega (arith, s.size)

  taking-next : (r : List ℕ) → r ≡ ring_of (words_at n t e) → Taking n m t (put_part rings (12 * e) 12 r) (e + 1)
  taking-next r is =
      record { size = put-length rings (12 * e) 12 r within long ∙ s.size; done = λ i b. go i b (dec_lt i (12 * e)) }
    where
      long : length r ≡ 12
      long = ap length is ∙ ring-twelve (words_at n t e)

      go : (i : ℕ) → i < 12 * (e + 1) → Dec (i < 12 * e) → get_or (put_part rings (12 * e) 12 r) i 0 ≡ get_or (ring_of (words_at n t (i / 12))) (i % 12) 0
      go i b (yes less) = put-before rings (12 * e) 12 r within long i less ∙ s.done i less
      go i b (no past) =
          let k = i - 12 * e in
          let at : i ≡ 12 * e + k = omega arith in
          let ring : e ≡ i / 12 = omega arith in
          let place : k ≡ i % 12 = omega arith in
          ap (λ (j : ℕ). get_or (put_part rings (12 * e) 12 r) j 0) at
          ∙ put_in rings (12 * e) 12 r within long k (omega arith)
          ∙ ap (λ (x : List ℕ). get_or x k 0) is
          ∙ ap₂ (λ (x y : ℕ). get_or (ring_of (words_at n t x)) y 0) ring place

  -- the same by the parts that were lent
  pub taken_next :
      (r : HasQueues n m (length t) (length rings)) (at : ℕ)
      → at ≡ endpoint_at n e
      → (x : List ℕ)
      → x ≡ of_twelve (take (at + 12 - at) (drop at t)) (of_twelve (take (12 * e + 12 - 12 * e) (drop (12 * e) rings)) (ring_of (take (at + 12 - at) (drop at t))) (take (12 * e + 12 - 12 * e) (drop (12 * e) rings))) (take (12 * e + 12 - 12 * e) (drop (12 * e) rings))
      → Taking n m t (take (12 * e) rings ++ (x ++ drop (12 * e + 12 - 12 * e) (drop (12 * e) rings))) (e + 1)
  taken_next r at is x made =
      let q = take (at + 12 - at) (drop at t) in
      let lent = take (12 * e + 12 - 12 * e) (drop (12 * e) rings) in
      let twelve : length q ≡ 12 = ap length (words-lent t n e at is) ∙ part_length t (endpoint_at n e) 12 (words-within n m (length t) (length rings) e r l) in
      let long : length lent ≡ 12 = ap (λ (k : ℕ). length (take k (drop (12 * e) rings))) (add-sub_cancel_left (12 * e) 12) ∙ part_length rings (12 * e) 12 within in
      let ring : x ≡ ring_of (words_at n t e) =
      made
      ∙ sym (of-twelve q _ lent twelve refl)
      ∙ sym (of-twelve lent (ring_of q) lent long refl)
      ∙ ap ring_of (words-lent t n e at is) in
      subst (λ (k : ℕ). Taking n m t (take (12 * e) rings ++ (x ++ drop k (drop (12 * e) rings))) (e + 1)) (sym (add-sub_cancel_left (12 * e) 12))
      (taking-next x ring)

-- every ring is loaded
pub taking-end : (n m : ℕ) (t rings : List ℕ) (e : ℕ) → Taking n m t rings e → e ≡ m → rings ≡ rings_of n m t
unfolding rings_of
taking-end n m t rings e s all =
    ext_get_or 0 rings (words_below (12 * m) f) (s.size ∙ sym (words-length (12 * m) f))
    (λ i l. s.done i (omega (arith, s.size)) ∙ sym (words-at (12 * m) f i 0 (omega (arith, s.size))))
  where
    f : ℕ → ℕ
    f i = get_or (ring_of (words_at n t (i / 12))) (i % 12) 0

-- the loaded rings, where the test holds
pub taken-all : (n m : ℕ) (t rings x : List ℕ) → has_queues n m (length t) (length rings) ≡ true → x ≡ rings_of n m t → x ≡ cond (has_queues n m (length t) (length rings)) (rings_of n m t) rings
taken-all n m t rings x h e = rw h e
