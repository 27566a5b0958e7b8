-- A state that represents a table, stored to one with the same unchanging parts, is that table (specs/Claims). Assumes nothing.
use mathlib.Core.Path.{◌≡◌, sym, ap, ap₂, subst, ◌∙◌}
use mathlib.Core.Bool.{true, cond, ◌&&◌}
use mathlib.Core.List.{List}
use Prim.Native.Nat.{ℕ, zero, suc, ◌+◌, ◌-◌, ◌*◌, ◌/◌, ◌%◌, ◌<◌, ◌≤◌}
use native.Mathlib.Nat.{div-lt_iff_lt-mul, mod-lt, div-add-mod'}
use native.Mathlib.Decide.{dec_lt}
use native.Mathlib.Omega.{arith}
use lib.Dec.{eqb, leb, ltb}
use lib.ListN.{length, get_or, take}
use lib.Seq.{ext_get_or}
use borrow.Author.Tests.{lt-ltb, le-leb, lt-leb, eqb-true}
use Rattle.machine.specs.Below.{words_below}
use Rattle.machine.specs.Word.{kind, upper, payload, word, field_b, field_c}
use Rattle.machine.specs.Right.{all_rights}
use Rattle.machine.specs.Table.{domains, endpoints, rights_at, endpoint_at, rights_word, rights, endpoint}
use Rattle.machine.specs.Check.{Accepted, header_word_ok, rights_word_ok, endpoint_ok, identity_ok, queue_ok}
use Rattle.machine.specs.SameParts.{SameFrame}
use Rattle.machine.proofs.Accepted.{accepted-sized, accepted-header, accepted-counts, accepted-rights, accepted-endpoint}
use Rattle.machine.proofs.Below.{words-length, words-at}
use Rattle.machine.proofs.Bools.{and_left, and_right}
use Rattle.machine.proofs.Table.{endpoint-length, endpoint-word}
use Rattle.rights_matrix.specs.Rows.{stored_rows}
use Rattle.rights_matrix.specs.Claims.{StoredTo}
use Rattle.rights_matrix.proofs.Parts.{part_at, part_length}
use Rattle.rights_matrix.proofs.Rights.{stored-rights}
use Rattle.ring.specs.Ring.{stored_queue}
use Rattle.ring.proofs.Simulation.{store-is-queue}
use Rattle.working_theory.specs.State.{ring_at}
use Rattle.working_theory.specs.Represents.{Represents}
use Rattle.working_load.specs.Layout.{words_at, is_queue, stored_queues}
use Rattle.working_load.specs.Claims.{StoreIsTable}

-- a sound first word is made of n and m alone
header-whole : (w : ℕ) → header_word_ok w ≡ true → w ≡ 268435456 + field_b w * 256 + field_c w
unfolding header_word_ok
header-whole w h =
    let b4 = and_left (eqb (kind w) 1 && eqb (upper w) 0 && leb 1 (field_b w) && leb (field_b w) 16) (leb (field_c w) 32) h in
    let b3 = and_left (eqb (kind w) 1 && eqb (upper w) 0 && leb 1 (field_b w)) (leb (field_b w) 16) b4 in
    let b2 = and_left (eqb (kind w) 1 && eqb (upper w) 0) (leb 1 (field_b w)) b3 in
    let is_header : kind w ≡ 1 = eqb-true _ _ (and_left (eqb (kind w) 1) (eqb (upper w) 0) b2) in
    let is_zero : upper w ≡ 0 = eqb-true _ _ (and_right (eqb (kind w) 1) (eqb (upper w) 0) b2) in
    omega arith

-- a sound rights word is made of its rights alone
rights-whole : (w : ℕ) → rights_word_ok w ≡ true → word 2 (payload w) ≡ w
unfolding rights_word_ok
rights-whole w h =
    let is_rights : kind w ≡ 2 = eqb-true _ _ (and_left (eqb (kind w) 2) (leb (payload w) all_rights) h) in
    omega arith

module _ (t₀ t : List ℕ) (n m : ℕ) (rows : List (List ℕ)) (rings names owned : List ℕ) (a₀ : Accepted t₀) (a : Accepted t) (frame : SameFrame t t₀) (x : Represents n m rows rings names owned t) where
  t₁ : List ℕ
  t₁ = stored_rows n rows t₀

  size : length t ≡ 1 + n * n + 12 * m
  size = accepted-sized t a ∙ ap₂ (λ (i j : ℕ). 1 + i * i + 12 * j) (sym x.domains) (sym x.endpoints)

  out : StoredTo n rows t₀ t₁
  unfolding t₁
  out = stored-rights n rows t₀ (omega (arith, size, frame.size))

  same-header : get_or t₀ 0 0 ≡ get_or t 0 0
  unfolding domains endpoints
  same-header =
      header-whole _ (accepted-header t₀ a₀)
      ∙ ap₂ (λ (i j : ℕ). 268435456 + i * 256 + j) (sym frame.same_domains) (sym frame.same_endpoints)
      ∙ sym (header-whole _ (accepted-header t a))

  -- a rights word
  rights-out : (j : ℕ) → j < n * n → get_or t₁ (1 + j) 0 ≡ get_or t (1 + j) 0
  unfolding rights rights_word
  rights-out j l =
      let some : 0 < n = omega (arith, (accepted-counts t a).0, x.domains) in
      let lh : j / n < n = (div-lt_iff_lt-mul some).1 l in
      let lg : j % n < n = mod-lt j some in
      let at : rights_at n (j / n) (j % n) ≡ 1 + j = omega (arith, div-add-mod' j n) in
      ap (λ (i : ℕ). get_or t₁ i 0) (sym at)
      ∙ out.rights_words (j / n) (j % n) lh lg
      ∙ ap (word 2) (x.rights.same (j / n) (j % n) lh lg)
      ∙ rights-whole _ (accepted-rights t a (j / n) (j % n) (subst (λ (k : ℕ). j / n < k) x.domains lh) (subst (λ (k : ℕ). j % n < k) x.domains lg))
      ∙ ap (λ (k : ℕ). get_or t (rights_at k (j / n) (j % n)) 0) (sym x.domains)
      ∙ ap (λ (i : ℕ). get_or t i 0) at

  -- an endpoint's words are as they were before the rings are stored
  module _ (e : ℕ) (l : e < m) where
    there : endpoint_at n e + 12 ≤ length t₁
    there = omega (arith, out.size, size, frame.size)

    there₀ : endpoint_at n e + 12 ≤ length t₀
    there₀ = omega (arith, size, frame.size)

    words-still : words_at n t₁ e ≡ words_at n t₀ e
    words-still =
        let now = part_length t₁ (endpoint_at n e) 12 there in
        let then = part_length t₀ (endpoint_at n e) 12 there₀ in
        ext_get_or 0 (words_at n t₁ e) (words_at n t₀ e) (now ∙ sym then)
        (λ i b.
        let below : i < 12 = omega (arith, now) in
        part_at t₁ (endpoint_at n e) 12 i below
        ∙ out.behind (endpoint_at n e + i) (omega arith)
        ∙ sym (part_at t₀ (endpoint_at n e) 12 i below))

    same-identity : take 2 (words_at n t₁ e) ≡ take 2 (endpoint t e)
    unfolding endpoint
    same-identity =
        ap (take 2) (words-still ∙ ap (λ (k : ℕ). words_at k t₀ e) (x.domains ∙ frame.same_domains))
        ∙ sym (frame.identity e (omega (arith, x.endpoints, frame.same_endpoints)))

    queue-out : stored_queue (ring_at rings e) (words_at n t₁ e) ≡ endpoint t e
    unfolding endpoint_ok
    queue-out =
        let b : e < endpoints t = rw x.endpoints at l in
        store-is-queue (words_at n t₁ e) (endpoint t e) (ring_at rings e) (part_length t₁ (endpoint_at n e) 12 there)
        (endpoint-length t (accepted-sized t a) e b)
        same-identity
        (and_right (identity_ok (domains t) (endpoint t e)) (queue_ok (endpoint t e)) (accepted-endpoint t a e b))
        (x.queues e l)

  put-out-table : stored_queues n m rings t₁ ≡ t
  unfolding stored_queues is_queue
  put-out-table =
      ext_get_or 0 (words_below (length t₁) f) t (words-length (length t₁) f ∙ out.size ∙ sym frame.size)
      (λ i b.
      let inside : i < length t₁ = omega (arith, words-length (length t₁) f) in
      words-at (length t₁) f i 0 inside ∙ go i (omega (arith, out.size, frame.size)) (dec_lt i (endpoint_at n 0)))
    where
      f : ℕ → ℕ
      f i = cond (leb (endpoint_at n 0) i && ltb i (endpoint_at n m)) (get_or (stored_queue (ring_at rings ((i - endpoint_at n 0) / 12)) (words_at n t₁ ((i - endpoint_at n 0) / 12))) ((i - endpoint_at n 0) % 12) 0) (get_or t₁ i 0)

      front : (i : ℕ) → i < endpoint_at n 0 → get_or t₁ i 0 ≡ get_or t i 0
      front zero l = out.header ∙ same-header
      front (suc j) l =
          let is : suc j ≡ 1 + j = omega arith in
          ap (λ (k : ℕ). get_or t₁ k 0) is ∙ rights-out j (omega arith) ∙ ap (λ (k : ℕ). get_or t k 0) (sym is)

      go : (i : ℕ) → i < length t → Dec (i < endpoint_at n 0) → f i ≡ get_or t i 0
      go i l (yes less) = rw (lt-leb (endpoint_at n 0) i less) (front i less)
      go i l (no past) =
          let j = i - endpoint_at n 0 in
          let e = j / 12 in
          let k = j % 12 in
          let below : e < m = omega (arith, size) in
          let at : endpoint_at n e + k ≡ i = omega arith in
          rw (le-leb (endpoint_at n 0) i (omega arith), lt-ltb i (endpoint_at n m) (omega (arith, size)))
          (ap (λ (q : List ℕ). get_or q k 0) (queue-out e below)
          ∙ endpoint-word t (accepted-sized t a) e k (omega arith)
          ∙ ap (λ (d : ℕ). get_or t (endpoint_at d e + k) 0) (sym x.domains)
          ∙ ap (λ (y : ℕ). get_or t y 0) at)

pub store-is-table : StoreIsTable
unfolding t₁
store-is-table = put-out-table
