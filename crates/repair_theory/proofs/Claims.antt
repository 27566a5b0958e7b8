-- The claims about mending hold (specs/Claims). Assumes nothing.
use Prim.Native.Nat.{ℕ, zero, suc, ◌+◌, ◌*◌, ◌/◌, ◌%◌, ◌^◌, ◌<◌, ◌≤◌}
use mathlib.Core.Path.{◌≡◌, refl, sym, ap, ap₂, ◌∙◌}
use mathlib.Core.Bool.{Bool, true, false, cond, not, ◌&&◌, false≢true}
use mathlib.Core.Logic.{⊎_elim}
use mathlib.Core.List.{List}
use native.Mathlib.Nat.{div-lt_iff_lt-mul, mod-lt, div-add-mod', zero-div}
use native.Mathlib.Decide.{dec_lt}
use native.Mathlib.Omega.{arith}
use borrow.Author.Tests.{eqb-true}
use lib.Dec.{eqb}
use lib.ListN.{length, get_or, get_or-eq_default}
use Rattle.machine.specs.Below.{all_below}
use Rattle.machine.specs.Word.{payload}
use Rattle.machine.specs.Right.{holds}
use Rattle.machine.specs.Table.{domains, endpoints, rights_at, endpoint_at, rights_word, rights, endpoint}
use Rattle.machine.specs.Queue.{name}
use Rattle.machine.specs.Check.{rights_word_ok, identity_ok, queue_ok, endpoint_ok, name_new, header_ok, length_ok, rights_ok, endpoints_ok, table_code}
use Rattle.machine.proofs.Bools.{and_left, and_right, either, cond-elim}
use Rattle.machine.proofs.Below.{all-at, all_of, all_same}
use Rattle.machine.proofs.Right.{holds-bit}
use Rattle.machine.proofs.Table.{endpoint-length, endpoint-word}
use Rattle.machine.proofs.Accepted.{parts, accepted-endpoint}
use Rattle.table_check.specs.Checked.{Headed}
use Rattle.repair_theory.specs.Mend.{mended_rights, mended_endpoint, mended, mendable}
use Rattle.repair_theory.specs.Claims.{EachPartMended, MendedAccepted, UnmendableRefused, SoundStays, NoRightAdded, NoRightInAnyReading, MayAlter, MayAlter.broken_rights, MayAlter.broken_queue, OnlyBrokenAltered}
use Rattle.repair_theory.proofs.Places.{place-elim}
use Rattle.repair_theory.proofs.Mended.{rights-kept, mended-rights-ok, queue-kept, mended-identity, mended-name, mended-endpoint-ok, mended-length, mended-stays, headed-either, headed-sized, mended-header, mended-domains, mended-endpoints, mended-at-rights, mended-at-endpoint, mended-rights, mended-endpoint, mended-is}

pub each-part-mended : EachPartMended
each-part-mended t header size =
    let h : Headed t = record { header = header; size = size } in
    record { size = mended-length t; header = mended-header t h; rights = mended-rights t h; endpoints = mended-endpoint t h }

-- ---- the check of a mended table

-- each endpoint's name and info are right, and its name is new
abbrev identities : List ℕ → Bool
identities t = all_below (endpoints t) (λ e. identity_ok (domains t) (endpoint t e) && name_new t e)

module _ (t : List ℕ) (h : Headed t) where
  header-right : header_ok (mended t) ≡ true
  unfolding header_ok
  header-right = rw (mended-length t, mended-header t h) h.header

  length-right : length_ok (mended t) ≡ true
  unfolding length_ok
  length-right = rw (mended-length t, mended-domains t h, mended-endpoints t h) h.size

  rights-right : rights_ok (mended t) ≡ true
  unfolding rights_ok
  rights-right =
      rw (mended-domains t h)
      (all_of (domains t * domains t) (λ i. rights_word_ok (get_or (mended t) (1 + i) 0))
      (λ i l. ap rights_word_ok (mended-at-rights t h i l) ∙ mended-rights-ok _))

  twelve : (e : ℕ) → e < endpoints t → length (endpoint t e) ≡ 12
  twelve e l = endpoint-length t (headed-sized t h) e l

  name-stays : (e : ℕ) → e < endpoints t → name (endpoint (mended t) e) ≡ name (endpoint t e)
  name-stays e l = ap name (mended-endpoint t h e l) ∙ mended-name (endpoint t e) (twelve e l)

  name-as-new : (e : ℕ) → e < endpoints t → name_new (mended t) e ≡ name_new t e
  unfolding name_new
  name-as-new e l =
      all_same e _ _ (λ f b. ap₂ (λ (x y : ℕ). not (eqb x y)) (name-stays f (omega arith)) (name-stays e l))

  endpoint-right : (e : ℕ) → e < endpoints t → endpoint_ok (domains (mended t)) (endpoint (mended t) e) ≡ identity_ok (domains t) (endpoint t e)
  endpoint-right e l =
      ap₂ endpoint_ok (mended-domains t h) (mended-endpoint t h e l)
      ∙ mended-endpoint-ok (endpoint t e) (twelve e l) (domains t)

  endpoints-right : endpoints_ok (mended t) ≡ identities t
  unfolding endpoints_ok
  endpoints-right =
      rw (mended-endpoints t h)
      (all_same (endpoints t) _ _ (λ e l. ap₂ ◌&&◌ (endpoint-right e l) (name-as-new e l)))

  mended-code : eqb (table_code (mended t)) 0 ≡ mendable t
  unfolding table_code mendable
  mended-code =
      rw (header-right, length-right, rights-right, endpoints-right, h.header, h.size) (go (identities t))
    where
      go : (b : Bool) → eqb (cond (not b) 5 0) 0 ≡ b
      go true = refl
      go false = refl

-- a table whose words can't be placed stays, and is refused as it was
unplaced-code : (t : List ℕ) → (header_ok t && length_ok t) ≡ false → eqb (table_code t) 0 ≡ mendable t
unfolding table_code mendable
unplaced-code t wrong = go (header_ok t) (length_ok t) wrong
  where
    go : (a b : Bool) → (a && b) ≡ false → eqb (cond (not a) 2 (cond (not b) 3 (cond (not (rights_ok t)) 4 (cond (not (endpoints_ok t)) 5 0)))) 0 ≡ (a && b && identities t)
    go true true e = absurd (false≢true (sym e))
    go true false e = refl
    go false b e = refl

-- the check accepts a mended table just where mending was enough
pub accepted-exactly : (t : List ℕ) → eqb (table_code (mended t)) 0 ≡ mendable t
accepted-exactly t =
    ⊎_elim
    (λ right. mended-code t (record { header = and_left (header_ok t) (length_ok t) right; size = and_right (header_ok t) (length_ok t) right }))
    (λ wrong. ap (λ (x : List ℕ). eqb (table_code x) 0) (mended-stays t wrong) ∙ unplaced-code t wrong)
    (either (header_ok t && length_ok t))

pub mended-accepted : MendedAccepted
mended-accepted t can = eqb-true _ _ (accepted-exactly t ∙ can)

pub unmendable-refused : UnmendableRefused
unmendable-refused t can't a =
    let accepted : eqb (table_code (mended t)) 0 ≡ true = rw a in
    false≢true (sym can't ∙ sym (accepted-exactly t) ∙ accepted)

pub sound-stays : SoundStays
unfolding rights_ok endpoint_ok
sound-stays t a =
    let p = parts t a in
    sym
    (mended-is t (record { header = p.header; size = p.size }) t refl refl
    (λ i l. sym (rights-kept _ (all-at _ _ p.rights i l)))
    (λ e l. sym (queue-kept _ (and_right (identity_ok (domains t) (endpoint t e)) (queue_ok (endpoint t e)) (accepted-endpoint t a e l)))))

-- ---- no right is added

pub no-right-in-any-reading : NoRightInAnyReading
unfolding mended_rights
no-right-in-any-reading t shows none h g r lh lg =
    ⊎_elim
    (λ headed.
    rw (mended-rights t headed h g lh lg)
    (cond-elim (λ (w : ℕ). shows w r ≡ true → shows (rights_word t h g) r ≡ true) (rights_word_ok (rights_word t h g))
    (λ _ shown. shown)
    (λ _ shown. absurd (false≢true (sym (none r) ∙ shown)))))
    (λ stays. rw stays (λ shown. shown))
    (headed-either t)

pub no-right-added : NoRightAdded
unfolding rights
no-right-added t h g k lh lg =
    no-right-in-any-reading t (λ w r. holds (payload w) (2 ^ r)) (λ r. holds-bit 0 r ∙ rw (zero-div (2 ^ r))) h g k lh lg

-- ---- nothing else is altered

-- where there is a rights word there is a domain
some-domain : (n i : ℕ) → i < n * n → 0 < n
some-domain zero i l = absurd (omega arith)
some-domain (suc n) i l = omega arith

module _ (t : List ℕ) (h : Headed t) where
  -- an altered rights word was broken
  altered-rights : (i : ℕ) → i < domains t * domains t → (get_or (mended t) (1 + i) 0 ≡ get_or t (1 + i) 0 → ⊥) → MayAlter t (1 + i)
  unfolding rights_word
  altered-rights i l altered =
      let n = domains t in
      let pos = some-domain n i l in
      let at : rights_at n (i / n) (i % n) ≡ 1 + i = omega (arith, div-add-mod' i n) in
      broken_rights (i / n) (i % n) ((div-lt_iff_lt-mul pos).1 l) (mod-lt i pos) (sym at)
      (rw at
      (⊎_elim (λ ok. absurd (altered (mended-at-rights t h i l ∙ rights-kept _ ok))) (λ broken. broken) (either (rights_word_ok (get_or t (1 + i) 0)))))

  -- an altered word of an endpoint is one of a queue that has a broken word
  altered-queue : (e k : ℕ) → e < endpoints t → k < 12 → (get_or (mended t) (endpoint_at (domains t) e + k) 0 ≡ get_or t (endpoint_at (domains t) e + k) 0 → ⊥) → MayAlter t (endpoint_at (domains t) e + k)
  altered-queue e k le lk altered =
      broken_queue e k le (past-identity (dec_lt k 2)) lk refl
      (⊎_elim (λ ok. absurd (stays (ap (λ (q : List ℕ). get_or q k 0) (queue-kept _ ok)))) (λ broken. broken) (either (queue_ok (endpoint t e))))
    where
      stays : get_or (mended_endpoint (endpoint t e)) k 0 ≡ get_or (endpoint t e) k 0 → ⊥
      stays same = altered (mended-at-endpoint t h e k le lk ∙ same ∙ endpoint-word t (headed-sized t h) e k lk)

      past-identity : Dec (k < 2) → 2 ≤ k
      past-identity (yes l) = absurd (stays (mended-identity (endpoint t e) (endpoint-length t (headed-sized t h) e le) k l))
      past-identity (no l) = omega arith

pub only-broken-altered : OnlyBrokenAltered
only-broken-altered t i altered =
    ⊎_elim
    (λ h. inside h (dec_lt i (length t)))
    (λ stays. absurd (altered (ap (λ (x : List ℕ). get_or x i 0) stays)))
    (headed-either t)
  where
    inside : Headed t → Dec (i < length t) → MayAlter t i
    inside h (yes l) =
        place-elim (domains t) (endpoints t) (λ i. (get_or (mended t) i 0 ≡ get_or t i 0 → ⊥) → MayAlter t i)
        (λ differs. absurd (differs (mended-header t h)))
        (altered-rights t h)
        (altered-queue t h)
        i (omega (arith, headed-sized t h)) altered
    inside h (no l) =
        absurd (altered (get_or-eq_default (mended t) 0 (omega (arith, mended-length t)) ∙ sym (get_or-eq_default t 0 (omega arith))))
