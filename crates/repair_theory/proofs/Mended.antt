-- Laws of mending: the word at each place of a mended table, and that a table with these words is the mended one (specs/Mend).
-- Assumes nothing.
use Prim.Native.Nat.{ℕ, zero, suc, ◌+◌, ◌*◌, ◌-◌, ◌%◌, ◌<◌}
use mathlib.Core.Path.{◌≡◌, refl, sym, ap, subst, ◌∙◌}
use mathlib.Core.Bool.{true, false, ◌&&◌, and-true}
use mathlib.Core.Logic.{◌⊎◌, ◌⊎◌.inl, ◌⊎◌.inr, ⊎_elim}
use mathlib.Core.List.{List, [], ◌∷◌, ◌++◌}
use native.Mathlib.Omega.{arith}
use borrow.Author.Tests.{lt-ltb, le-ltb, le-leb, ne_eqb, eqb-true}
use lib.Arith.{digits_div, digits_mod, digits_lt}
use lib.ListN.{length, get_or, take}
use lib.Seq.{ext_get_or}
use Rattle.machine.specs.Below.{all_below}
use Rattle.machine.specs.Word.{word}
use Rattle.machine.specs.Table.{domains, endpoints, endpoint_at, rights_word, endpoint}
use Rattle.machine.specs.Queue.{name, capacity, waiting}
use Rattle.machine.specs.Check.{rights_word_ok, waiting_word_ok, lost_word_ok, slot_word_ok, identity_ok, queue_ok, endpoint_ok, header_ok, length_ok}
use Rattle.machine.proofs.Bools.{and_left, and_right, either, cond-elim}
use Rattle.machine.proofs.Below.{words-length, words-at}
use Rattle.machine.proofs.Table.{Sized, domains-header, endpoints-header, endpoint-length, endpoint-word, endpoint-fits}
use Rattle.table_check.specs.Checked.{Headed}
use Rattle.repair_theory.specs.Mend.{mended_rights, empty_queue, mended_endpoint, endpoints_from, mended_at, mended}
use Rattle.repair_theory.proofs.Places.{place-elim}

-- ---- a rights word

pub rights-kept : (w : ℕ) → rights_word_ok w ≡ true → mended_rights w ≡ w
unfolding mended_rights
rights-kept w ok = rw ok

pub rights-cleared : (w : ℕ) → rights_word_ok w ≡ false → mended_rights w ≡ word 2 0
unfolding mended_rights
rights-cleared w broken = rw broken

pub mended-rights-ok : (w : ℕ) → rights_word_ok (mended_rights w) ≡ true
unfolding mended_rights rights_word_ok
mended-rights-ok w = cond-elim (λ (x : ℕ). rights_word_ok x ≡ true) (rights_word_ok w) (λ ok. ok) (λ _. refl)

-- ---- an endpoint's twelve words

pub queue-kept : (q : List ℕ) → queue_ok q ≡ true → mended_endpoint q ≡ q
unfolding mended_endpoint
queue-kept q ok = rw ok

pub queue-emptied : (q : List ℕ) → queue_ok q ≡ false → mended_endpoint q ≡ take 2 q ++ empty_queue
unfolding mended_endpoint
queue-emptied q broken = rw broken

-- the name and the info, then the empty queue
emptied : (q : List ℕ) → length q ≡ 12 → take 2 q ++ empty_queue ≡ get_or q 0 0 ∷ get_or q 1 0 ∷ empty_queue
emptied [] l = absurd (omega arith)
emptied (a ∷ []) l = absurd (omega arith)
emptied (a ∷ b ∷ q) l = refl

emptied-ok : (a b : ℕ) → queue_ok (a ∷ b ∷ empty_queue) ≡ true
unfolding queue_ok waiting_word_ok lost_word_ok slot_word_ok all_below capacity waiting
emptied-ok a b = rw (le-leb 0 (b % 256) (omega arith))

module _ (q : List ℕ) (twelve : length q ≡ 12) where
  -- what holds of the words as they are, where the queue is sound, and of an emptied queue holds of the mended words
  mended-elim : (P : List ℕ → Type 0) → (queue_ok q ≡ true → P q) → P (get_or q 0 0 ∷ get_or q 1 0 ∷ empty_queue) → P (mended_endpoint q)
  unfolding mended_endpoint
  mended-elim P kept empty =
      cond-elim P (queue_ok q) kept (λ _. subst P (sym (emptied q twelve)) empty)

  pub mended-twelve : length (mended_endpoint q) ≡ 12
  mended-twelve = mended-elim (λ x. length x ≡ 12) (λ _. twelve) refl

  -- the name and the info stay
  pub mended-identity : (k : ℕ) → k < 2 → get_or (mended_endpoint q) k 0 ≡ get_or q k 0
  mended-identity k l = mended-elim (λ x. get_or x k 0 ≡ get_or q k 0) (λ _. refl) (go k l)
    where
      go : (k : ℕ) → k < 2 → get_or (get_or q 0 0 ∷ get_or q 1 0 ∷ empty_queue) k 0 ≡ get_or q k 0
      go zero l = refl
      go (suc zero) l = refl
      go (suc (suc k)) l = absurd (omega arith)

  pub mended-name : name (mended_endpoint q) ≡ name q
  unfolding name
  mended-name = rw (mended-identity 0 (omega arith))

  -- so once mended, an endpoint is sound where its name and info are
  pub mended-endpoint-ok : (n : ℕ) → endpoint_ok n (mended_endpoint q) ≡ identity_ok n q
  unfolding endpoint_ok identity_ok
  mended-endpoint-ok n =
      let sound : queue_ok (mended_endpoint q) ≡ true = mended-elim (λ x. queue_ok x ≡ true) (λ ok. ok) (emptied-ok _ _) in
      rw (mended-identity 0 (omega arith), mended-identity 1 (omega arith), sound) (and-true _)

-- ---- the word at each place

module _ (t : List ℕ) where
  at-header : mended_at t 0 ≡ get_or t 0 0
  unfolding mended_at
  at-header = refl

  at-rights : (i : ℕ) → i < domains t * domains t → mended_at t (1 + i) ≡ mended_rights (get_or t (1 + i) 0)
  unfolding mended_at
  at-rights i l =
      rw (ne_eqb (1 + i) 0 (λ e. omega arith), lt-ltb (1 + i) (endpoints_from (domains t)) (omega arith))

  at-endpoint : (e k : ℕ) → k < 12 → mended_at t (endpoint_at (domains t) e + k) ≡ get_or (mended_endpoint (endpoint t e)) k 0
  unfolding mended_at
  at-endpoint e k l =
      let at = endpoint_at (domains t) e + k in
      let behind : at - endpoints_from (domains t) ≡ e * 12 + k = omega arith in
      rw (ne_eqb at 0 (λ z. omega arith), le-ltb at (endpoints_from (domains t)) (omega arith), behind, digits_div e l, digits_mod e l)

  -- a table stays where its word 0 or its length is wrong
  pub mended-stays : (header_ok t && length_ok t) ≡ false → mended t ≡ t
  unfolding mended
  mended-stays wrong = rw wrong

  pub mended-length : length (mended t) ≡ length t
  unfolding mended
  mended-length =
      cond-elim (λ (x : List ℕ). length x ≡ length t) (header_ok t && length_ok t) (λ _. words-length (length t) (mended_at t)) (λ _. refl)

  pub headed-either : Headed t ⊎ (mended t ≡ t)
  headed-either =
      ⊎_elim
      (λ right. inl (record { header = and_left (header_ok t) (length_ok t) right; size = and_right (header_ok t) (length_ok t) right }))
      (λ wrong. inr (mended-stays wrong))
      (either (header_ok t && length_ok t))

module _ (t : List ℕ) (h : Headed t) where
  pub headed-sized : Sized t
  unfolding length_ok
  headed-sized = eqb-true _ _ h.size

  mended-word : (i : ℕ) → i < length t → get_or (mended t) i 0 ≡ mended_at t i
  unfolding mended
  mended-word i l = rw (h.header, h.size) (words-at (length t) (mended_at t) i 0 l)

  pub mended-header : get_or (mended t) 0 0 ≡ get_or t 0 0
  mended-header = mended-word 0 (omega (arith, headed-sized)) ∙ at-header t

  pub mended-domains : domains (mended t) ≡ domains t
  mended-domains = domains-header (mended t) t mended-header

  pub mended-endpoints : endpoints (mended t) ≡ endpoints t
  mended-endpoints = endpoints-header (mended t) t mended-header

  pub mended-sized : Sized (mended t)
  mended-sized = rw (mended-length t, mended-domains, mended-endpoints) headed-sized

  pub mended-at-rights : (i : ℕ) → i < domains t * domains t → get_or (mended t) (1 + i) 0 ≡ mended_rights (get_or t (1 + i) 0)
  mended-at-rights i l = mended-word (1 + i) (omega (arith, headed-sized)) ∙ at-rights t i l

  pub mended-at-endpoint : (e k : ℕ) → e < endpoints t → k < 12 → get_or (mended t) (endpoint_at (domains t) e + k) 0 ≡ get_or (mended_endpoint (endpoint t e)) k 0
  mended-at-endpoint e k l b =
      mended-word (endpoint_at (domains t) e + k) (omega (arith, headed-sized, endpoint-fits (domains t) (endpoints t) e l))
      ∙ at-endpoint t e k b

  pub mended-rights : (x g : ℕ) → x < domains t → g < domains t → rights_word (mended t) x g ≡ mended_rights (rights_word t x g)
  unfolding rights_word
  mended-rights x g p q =
      let at : 1 + x * domains t + g ≡ 1 + (x * domains t + g) = omega arith in
      rw (mended-domains, at) (mended-at-rights (x * domains t + g) (digits_lt p q))

  pub mended-endpoint : (e : ℕ) → e < endpoints t → endpoint (mended t) e ≡ mended_endpoint (endpoint t e)
  mended-endpoint e l =
      let there : e < endpoints (mended t) = rw mended-endpoints l in
      let long = endpoint-length (mended t) mended-sized e there in
      ext_get_or 0 (endpoint (mended t) e) (mended_endpoint (endpoint t e))
      (long ∙ sym (mended-twelve (endpoint t e) (endpoint-length t headed-sized e l)))
      (λ k b.
      let b' : k < 12 = omega (arith, long) in
      endpoint-word (mended t) mended-sized e k b'
      ∙ ap (λ (n : ℕ). get_or (mended t) (endpoint_at n e + k) 0) mended-domains
      ∙ mended-at-endpoint e k l b')

  -- a table that has these words is the mended one
  pub mended-is : (s : List ℕ)
      → length s ≡ length t
      → get_or s 0 0 ≡ get_or t 0 0
      → ((i : ℕ) → i < domains t * domains t → get_or s (1 + i) 0 ≡ mended_rights (get_or t (1 + i) 0))
      → ((e : ℕ) → e < endpoints t → endpoint s e ≡ mended_endpoint (endpoint t e))
      → s ≡ mended t
  mended-is s size header rights words =
      ext_get_or 0 s (mended t) (size ∙ sym (mended-length t))
      (λ i l.
      place-elim (domains t) (endpoints t) (λ i. get_or s i 0 ≡ get_or (mended t) i 0)
      (header ∙ sym mended-header)
      (λ i b. rights i b ∙ sym (mended-at-rights i b))
      (λ e k le lk.
      ap (λ (n : ℕ). get_or s (endpoint_at n e + k) 0) (sym same)
      ∙ sym (endpoint-word s sized e k lk)
      ∙ ap (λ (q : List ℕ). get_or q k 0) (words e le)
      ∙ sym (mended-at-endpoint e k le lk))
      i (omega (arith, size, headed-sized)))
    where
      same : domains s ≡ domains t
      same = domains-header s t header

      sized : Sized s
      sized = rw (size, same, endpoints-header s t header) headed-sized
