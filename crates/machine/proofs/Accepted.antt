-- What acceptance says of each word of a table, and what makes a table accepted (specs/Check).
-- Assumes nothing.
use mathlib.Core.Path.{◌≡◌, refl, ap, ap₂, subst, ◌∙◌}
use mathlib.Core.Bool.{Bool, true, false, cond, not, ◌&&◌}
use mathlib.Core.List.{List}
use Prim.Native.Nat.{ℕ, suc, ◌+◌, ◌*◌, ◌/◌, ◌%◌, ◌<◌, ◌≤◌}
use native.Mathlib.Nat.{div-lt_iff_lt-mul, mod-lt, div-add-mod'}
use native.Mathlib.Omega.{arith}
use borrow.Author.Tests.{ltb-true, leb-true, eqb-true}
use lib.Dec.{eqb, leb, ltb}
use lib.ListN.{length, get_or}
use lib.Arith.{digits_lt}
use Rattle.machine.specs.Word.{kind, upper, field_b, field_c}
use Rattle.machine.specs.Table.{domains, endpoints, rights_word, endpoint}
use Rattle.machine.specs.Queue.{name, owner, capacity}
use Rattle.machine.specs.Check.{header_word_ok, rights_word_ok, name_word_ok, info_word_ok, identity_ok, queue_ok, endpoint_ok, name_new, header_ok, length_ok, rights_ok, endpoints_ok, table_code, Accepted}
use Rattle.machine.proofs.Bools.{and_left, and_right, and_intro}
use Rattle.machine.proofs.Below.{all-at, all_of, all_same}
use Rattle.machine.proofs.Table.{Sized, domains-header, endpoints-header}

-- a place that doesn't refuse: its test holds, and the code is that of the places after it
passed : (b : Bool) (k rest : ℕ) → cond (not b) (suc k) rest ≡ 0 → (b ≡ true) × (rest ≡ 0)
passed true k rest h = (refl, h)
passed false k rest h = absurd (omega arith)

-- the four tests of an accepted table
pub record Parts (t : List ℕ) : Type 0 where
  pub header : header_ok t ≡ true
  pub size : length_ok t ≡ true
  pub rights : rights_ok t ≡ true
  pub endpoints : endpoints_ok t ≡ true

pub parts : (t : List ℕ) → Accepted t → Parts t
unfolding table_code
parts t a =
    let p = passed (header_ok t) 1 _ a in
    let q = passed (length_ok t) 2 _ p.1 in
    let r = passed (rights_ok t) 3 _ q.1 in
    let s = passed (endpoints_ok t) 4 _ r.1 in
    record { header = p.0; size = q.0; rights = r.0; endpoints = s.0 }

pub accepted : (t : List ℕ) → Parts t → Accepted t
unfolding table_code
accepted t p = rw (p.header, p.size, p.rights, p.endpoints)

module _ (t : List ℕ) (a : Accepted t) where
  pub accepted-sized : Sized t
  unfolding length_ok
  accepted-sized = eqb-true _ _ (parts t a).size

  pub accepted-header : header_word_ok (get_or t 0 0) ≡ true
  unfolding header_ok
  accepted-header = and_right (not (eqb (length t) 0)) _ (parts t a).header

  -- 1 to 16 domains, at most 32 endpoints
  pub accepted-counts : (1 ≤ domains t) × (domains t ≤ 16) × (endpoints t ≤ 32)
  unfolding header_word_ok domains endpoints
  accepted-counts =
      let w = get_or t 0 0 in
      let h = accepted-header in
      let h3 = and_left (eqb (kind w) 1 && eqb (upper w) 0 && leb 1 (field_b w) && leb (field_b w) 16) (leb (field_c w) 32) h in
      let h2 = and_left (eqb (kind w) 1 && eqb (upper w) 0 && leb 1 (field_b w)) (leb (field_b w) 16) h3 in
      (leb-true _ _ (and_right (eqb (kind w) 1 && eqb (upper w) 0) (leb 1 (field_b w)) h2), leb-true _ _ (and_right (eqb (kind w) 1 && eqb (upper w) 0 && leb 1 (field_b w)) (leb (field_b w) 16) h3), leb-true _ _ (and_right (eqb (kind w) 1 && eqb (upper w) 0 && leb 1 (field_b w) && leb (field_b w) 16) (leb (field_c w) 32) h))

  pub accepted-rights : (h g : ℕ) → h < domains t → g < domains t → rights_word_ok (rights_word t h g) ≡ true
  unfolding rights_ok rights_word
  accepted-rights h g p q =
      let at : 1 + (h * domains t + g) ≡ 1 + h * domains t + g = omega arith in
      subst (λ (i : ℕ). rights_word_ok (get_or t i 0) ≡ true) at (all-at _ _ (parts t a).rights (h * domains t + g) (digits_lt p q))

  both : (e : ℕ) → e < endpoints t → (endpoint_ok (domains t) (endpoint t e) && name_new t e) ≡ true
  unfolding endpoints_ok
  both e l = all-at _ _ (parts t a).endpoints e l

  pub accepted-endpoint : (e : ℕ) → e < endpoints t → endpoint_ok (domains t) (endpoint t e) ≡ true
  accepted-endpoint e l = and_left (endpoint_ok (domains t) (endpoint t e)) (name_new t e) (both e l)

  pub accepted-name : (e : ℕ) → e < endpoints t → name_new t e ≡ true
  accepted-name e l = and_right (endpoint_ok (domains t) (endpoint t e)) (name_new t e) (both e l)

-- an endpoint's owner is a domain, and its capacity 1 to 8
pub info-of : (n : ℕ) (q : List ℕ) → endpoint_ok n q ≡ true → (owner q < n) × (1 ≤ capacity q) × (capacity q ≤ 8)
unfolding endpoint_ok identity_ok info_word_ok owner capacity
info-of n q h =
    let w = get_or q 1 0 in
    let i4 = and_right (name_word_ok (get_or q 0 0)) _ (and_left _ (queue_ok q) h) in
    let i3 = and_left (eqb (kind w) 4 && eqb (upper w) 0 && ltb (field_b w) n && leb 1 (field_c w)) (leb (field_c w) 8) i4 in
    let i2 = and_left (eqb (kind w) 4 && eqb (upper w) 0 && ltb (field_b w) n) (leb 1 (field_c w)) i3 in
    (ltb-true _ _ (and_right (eqb (kind w) 4 && eqb (upper w) 0) (ltb (field_b w) n) i2), leb-true _ _ (and_right (eqb (kind w) 4 && eqb (upper w) 0 && ltb (field_b w) n) (leb 1 (field_c w)) i3), leb-true _ _ (and_right (eqb (kind w) 4 && eqb (upper w) 0 && ltb (field_b w) n && leb 1 (field_c w)) (leb (field_c w) 8) i4))

pub accepted-owner : (t : List ℕ) → Accepted t → (e : ℕ) → e < endpoints t → owner (endpoint t e) < domains t
accepted-owner t a e l = (info-of (domains t) (endpoint t e) (accepted-endpoint t a e l)).0

-- A table like an accepted one: as long, with the same first word and the same names, every rights word and endpoint in
-- order. It is accepted too.
module _ (t t' : List ℕ) (a : Accepted t) (size : length t' ≡ length t) (header : get_or t' 0 0 ≡ get_or t 0 0) where
  same-domains : domains t' ≡ domains t
  same-domains = domains-header t' t header

  same-endpoints : endpoints t' ≡ endpoints t
  same-endpoints = endpoints-header t' t header

  like-header : header_ok t' ≡ true
  unfolding header_ok
  like-header = rw (size, header) (parts t a).header

  like-size : length_ok t' ≡ true
  unfolding length_ok
  like-size = rw (size, same-domains, same-endpoints) (parts t a).size

  -- every place of the rights words is that of a holder and a target
  like-rights : ((h g : ℕ) → h < domains t → g < domains t → rights_word_ok (rights_word t' h g) ≡ true) → rights_ok t' ≡ true
  unfolding rights_ok rights_word
  like-rights f =
      rw same-domains
      (all_of (domains t * domains t) (λ i. rights_word_ok (get_or t' (1 + i) 0))
      (λ i l.
      let n = domains t in
      let pos : 0 < n = (accepted-counts t a).0 in
      let at : 1 + i / n * n + i % n ≡ 1 + i = omega (arith, div-add-mod' i n) in
      let ok = f (i / n) (i % n) ((div-lt_iff_lt-mul pos).1 l) (mod-lt i pos) in
      subst (λ (j : ℕ). rights_word_ok (get_or t' j 0) ≡ true)
      (ap (λ (k : ℕ). 1 + i / n * k + i % n) same-domains ∙ at) ok))

  like-names : ((e : ℕ) → e < endpoints t → name (endpoint t' e) ≡ name (endpoint t e)) → (e : ℕ) → e < endpoints t → name_new t' e ≡ true
  unfolding name_new
  like-names f e l =
      all_same e _ _ (λ i b. ap₂ (λ (x y : ℕ). not (eqb x y)) (f i (omega arith)) (f e l)) ∙ accepted-name t a e l

  like-endpoints : ((e : ℕ) → e < endpoints t → endpoint_ok (domains t) (endpoint t' e) ≡ true) → ((e : ℕ) → e < endpoints t → name (endpoint t' e) ≡ name (endpoint t e)) → endpoints_ok t' ≡ true
  unfolding endpoints_ok
  like-endpoints f g =
      rw same-endpoints
      (all_of (endpoints t) (λ e. endpoint_ok (domains t') (endpoint t' e) && name_new t' e)
      (λ e l.
      and_intro (ap (λ (k : ℕ). endpoint_ok k (endpoint t' e)) same-domains ∙ f e l) (like-names g e l)))

  pub accepted-like : ((h g : ℕ) → h < domains t → g < domains t → rights_word_ok (rights_word t' h g) ≡ true) → ((e : ℕ) → e < endpoints t → endpoint_ok (domains t) (endpoint t' e) ≡ true) → ((e : ℕ) → e < endpoints t → name (endpoint t' e) ≡ name (endpoint t e)) → Accepted t'
  accepted-like r e n =
      accepted t'
      (record { header = like-header; size = like-size; rights = like-rights r; endpoints = like-endpoints e n })
