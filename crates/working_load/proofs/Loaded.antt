-- A loaded state represents the table (specs/Claims). Assumes nothing.
use mathlib.Core.Path.{◌≡◌, refl, sym, ap, ap₂, subst, ◌∙◌}
use mathlib.Core.Bool.{Bool, cond}
use mathlib.Core.List.{List}
use Prim.Native.Nat.{ℕ, ◌+◌, ◌*◌, ◌/◌, ◌%◌, ◌<◌, min}
use native.Mathlib.Nat.{add-zero, mod-eq_of_lt}
use native.Mathlib.Omega.{arith}
use lib.Dec.{eqb}
use lib.ListN.{length, get_or}
use lib.Seq.{ext_get_or}
use borrow.Author.Tests.{lt-ltb}
use Rattle.machine.specs.Below.{words_below, bits_below}
use Rattle.machine.specs.Word.{payload, field_b}
use Rattle.machine.specs.Table.{domains, endpoints, endpoint_at, endpoint}
use Rattle.machine.specs.Queue.{name, owner}
use Rattle.machine.specs.Check.{Accepted}
use Rattle.machine.specs.Machine.{owned_bits}
use Rattle.machine.proofs.Accepted.{accepted-sized, accepted-counts, accepted-endpoint, accepted-owner}
use Rattle.machine.proofs.Below.{words-length, words-at, bits-same}
use Rattle.machine.proofs.Queue.{waiting-most}
use Rattle.machine.proofs.Table.{endpoint-word}
use Rattle.rights_matrix.proofs.Parts.{part_at, part_length}
use Rattle.rights_matrix.proofs.Rights.{loaded-rights}
use Rattle.ring.specs.Ring.{ring_of}
use Rattle.ring.specs.Claims.{RepresentsQueue}
use Rattle.ring.proofs.Simulation.{loaded-ring-represents}
use Rattle.working_theory.specs.State.{ring_at}
use Rattle.working_load.specs.Layout.{words_at, rings_of, names_of, owned_of}
use Rattle.working_load.specs.Claims.{LoadedRepresents}

-- an endpoint's words, by n
words_are : (t : List ℕ) (e : ℕ) → words_at (domains t) t e ≡ endpoint t e
unfolding endpoint
words_are t e = refl

-- the ring of an endpoint among the loaded ones
module _ (n m : ℕ) (t : List ℕ) (e : ℕ) (l : e < m) (twelve : length (ring_of (words_at n t e)) ≡ 12) where
  taken-ring : ring_at (rings_of n m t) e ≡ ring_of (words_at n t e)
  unfolding rings_of
  taken-ring =
      let f : ℕ → ℕ = λ i. get_or (ring_of (words_at n t (i / 12))) (i % 12) 0 in
      let long = words-length (12 * m) f in
      let part = part_length (words_below (12 * m) f) (12 * e) 12 (omega (arith, long)) in
      ext_get_or 0 (ring_at (words_below (12 * m) f) e) (ring_of (words_at n t e)) (part ∙ sym twelve)
      (λ k b.
      let below : k < 12 = omega (arith, part) in
      let ring : (12 * e + k) / 12 ≡ e = omega arith in
      let place : (12 * e + k) % 12 ≡ k = omega arith in
      part_at (words_below (12 * m) f) (12 * e) 12 k below
      ∙ words-at (12 * m) f (12 * e + k) 0 (omega arith)
      ∙ ap₂ (λ (x y : ℕ). get_or (ring_of (words_at n t x)) y 0) ring place)

module _ (t : List ℕ) (a : Accepted t) where
  n : ℕ
  n = domains t

  m : ℕ
  m = endpoints t

  -- an endpoint's ring
  ring-stands : (e : ℕ) → e < m → RepresentsQueue (ring_at (rings_of n m t) e) (endpoint t e)
  unfolding n m endpoint
  ring-stands e l =
      let r = loaded-ring-represents (endpoint t e) (waiting-most (domains t) (endpoint t e) (accepted-endpoint t a e l)) in
      subst (λ (x : List ℕ). RepresentsQueue x (endpoint t e)) (sym (taken-ring n m t e l r.twelve)) r

  same_name : (e : ℕ) → e < m → get_or (names_of n m t) e 0 ≡ name (endpoint t e)
  unfolding n m names_of name
  same_name e l =
      words-at 32 _ e 0 (omega (arith, (accepted-counts t a).2))
      ∙ ap (λ (b : Bool). cond b (payload (get_or t (endpoint_at (domains t) e) 0)) 0) (lt-ltb e (endpoints t) l)
      ∙ ap payload (sym (endpoint-word t (accepted-sized t a) e 0 (omega arith) ∙ ap (λ (i : ℕ). get_or t i 0) (add-zero _)))

  -- an endpoint's owner is below sixteen
  same-owner : (e u : ℕ) → e < m → eqb (field_b (get_or t (endpoint_at n e + 1) 0) % 16) u ≡ eqb (owner (endpoint t e)) u
  unfolding n m owner
  same-owner e u l =
      let read : field_b (get_or t (endpoint_at (domains t) e + 1) 0) ≡ owner (endpoint t e) = ap field_b (sym (endpoint-word t (accepted-sized t a) e 1 (omega arith))) in
      ap (λ (o : ℕ). eqb o u)
      (mod-eq_of_lt (omega (arith, read, accepted-owner t a e l, (accepted-counts t a).1)) ∙ read)

  same-owned : (u : ℕ) → u < n → get_or (owned_of n m t) u 0 ≡ owned_bits t u
  unfolding owned_of owned_bits bits_below n m
  same-owned u l =
      let p : ℕ → Bool = λ e. eqb (field_b (get_or t (endpoint_at n e + 1) 0) % 16) u in
      words-at 16 (λ v. bits_below (min m 32) (λ e. eqb (field_b (get_or t (endpoint_at n e + 1) 0) % 16) v)) u 0 (few u l)
      ∙ ap (λ (k : ℕ). bits_below k p) all
      ∙ bits-same m p (λ e. eqb (owner (endpoint t e)) u) (λ e b. same-owner e u b)
    where
      few : (u : ℕ) → u < n → u < 16
      few u l = omega (arith, (accepted-counts t a).1)

      all : min m 32 ≡ m
      all = omega (arith, (accepted-counts t a).2)

pub loaded-represents : LoadedRepresents
unfolding rings_of n m
loaded-represents t a =
    record {
      domains = refl;
      endpoints = refl;
      rights = loaded-rights t a;
      size = words-length (12 * endpoints t) _;
      queues = ring-stands t a;
      same_names = same_name t a;
      same_owned = same-owned t a;
    }
