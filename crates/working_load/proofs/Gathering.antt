-- The names and the owned endpoints as they are gathered, endpoint by endpoint. Assumes nothing.
use mathlib.Core.Path.{◌≡◌, refl, sym, ap, ap₂, ◌∙◌}
use mathlib.Core.Bool.{cond}
use mathlib.Core.List.{List}
use Prim.Native.Nat.{ℕ, suc, ◌+◌, ◌%◌, ◌^◌, ◌<◌, ◌≤◌, min}
use native.Mathlib.Nat.{pow-suc}
use native.Mathlib.Decide.{dec_lt, ℕ_discrete}
use native.Mathlib.Numerals.{add-one}
use native.Mathlib.Omega.{arith}
use mir.Syntax.{w32}
use mir.Val.{Fits}
use lib.Dec.{eqb, ltb}
use lib.ListN.{length, get_or, set, length-set, replicate, get_or-replicate}
use lib.Pow.{pow_mono}
use lib.Seq.{ext_get_or, get_or-set_same, get_or-set_other}
use borrow.Author.Tests.{lt-ltb, le-ltb, eq-eqb, ne_eqb}
use Rattle.machine.specs.Below.{sum_below, words_below, bits_below}
use Rattle.machine.specs.Word.{payload, field_b}
use Rattle.machine.specs.Table.{endpoint_at}
use Rattle.machine.proofs.Below.{words-length, words-at, bits-lt}
use Rattle.rights_matrix.proofs.Filling.{Filling}
use Rattle.working_load.specs.Layout.{names_of, owned_of}

-- ---- the names
pub names-filled :
    (n m : ℕ) (t names : List ℕ) (i : ℕ)
    → Filling 0 (λ e. payload (get_or t (endpoint_at n e) 0)) (replicate 32 0) names i
    → i ≡ min m 32
    → names ≡ names_of n m t
unfolding names_of
names-filled n m t names i s all =
    ext_get_or 0 names (words_below 32 f) (s.size ∙ sym (words-length 32 f))
    (λ e l. go e (omega (arith, s.size)) (dec_lt e m) ∙ sym (words-at 32 f e 0 (omega (arith, s.size))))
  where
    f : ℕ → ℕ
    f e = cond (ltb e m) (payload (get_or t (endpoint_at n e) 0)) 0

    go : (e : ℕ) → e < 32 → Dec (e < m) → get_or names e 0 ≡ f e
    go e l (yes less) = s.done e (omega (arith, all)) ∙ rw (lt-ltb e m less)
    go e l (no past) = s.rest e (omega (arith, all)) ∙ get_or-replicate 32 e 0 0 l ∙ rw (le-ltb e m (omega arith))

-- ---- what each domain owns: the bits of the first e endpoints are set
abbrev owner_at : ℕ → List ℕ → ℕ → ℕ
owner_at n t e = field_b (get_or t (endpoint_at n e + 1) 0) % 16

pub record Gathered (n : ℕ) (t owned : List ℕ) (e : ℕ) : Type 0 where
  pub room : length owned ≡ 16
  pub each : (u : ℕ) → u < 16 → get_or owned u 0 ≡ bits_below e (λ f. eqb (owner_at n t f) u)

pub gather-start : (n : ℕ) (t : List ℕ) → Gathered n t (replicate 16 0) 0
unfolding bits_below sum_below
gather-start n t = record { room = refl; each = λ u l. get_or-replicate 16 u 0 0 l }

module _ (n : ℕ) (t owned : List ℕ) (e : ℕ) (s : Gathered n t owned e) (few : e < 32) (u one : ℕ) (is : u ≡ owner_at n t e) (bit : one ≡ 2 ^ e) where
  small : u < 16
  small = omega (arith, is)

  pub gather-room : Fits w32 (get_or owned u 0 + one)
  gather-room =
      let up : 2 ^ suc e ≤ 2 ^ 32 = pow_mono {i = suc e} {j = 32} (omega arith) in
      omega (arith, s.each u small, bits-lt e (λ f. eqb (owner_at n t f) u), pow-suc 2 e, bit)

  pub gather-next : Gathered n t (set owned u (get_or owned u 0 + one)) (e + 1)
  unfolding bits_below sum_below
  gather-next =
      record {
        room = length-set owned u _ ∙ s.room;
        each = λ v l. go v l (ℕ_discrete v u);
      }
    where
      go : (v : ℕ) → v < 16 → Dec (v ≡ u) → get_or (set owned u (get_or owned u 0 + one)) v 0 ≡ bits_below (e + 1) (λ f. eqb (owner_at n t f) v)
      go v l (yes same) =
          rw (same, add-one, eq-eqb (owner_at n t e) u (sym is))
          (get_or-set_same owned u _ 0 (omega (arith, s.room, small)) ∙ ap₂ ◌+◌ (s.each u small) bit)
      go v l (no ne) =
          rw (add-one, ne_eqb (owner_at n t e) v (λ x. ne (sym (is ∙ x))))
          (get_or-set_other owned u v _ 0 ne ∙ s.each v l ∙ omega arith)

pub gather-end : (n m : ℕ) (t owned : List ℕ) (e : ℕ) → Gathered n t owned e → e ≡ min m 32 → owned ≡ owned_of n m t
unfolding owned_of
gather-end n m t owned e s all =
    ext_get_or 0 owned (words_below 16 f) (s.room ∙ sym (words-length 16 f))
    (λ u l.
    let below : u < 16 = omega (arith, s.room) in
    s.each u below
    ∙ ap (λ (k : ℕ). bits_below k (λ i. eqb (owner_at n t i) u)) all
    ∙ sym (words-at 16 f u 0 below))
  where
    f : ℕ → ℕ
    f u = bits_below (min m 32) (λ i. eqb (owner_at n t i) u)
