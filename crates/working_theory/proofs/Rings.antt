-- The rings of m endpoints, side by side: one put in its place leaves the others as they are. Assumes nothing.
use mathlib.Core.Path.{◌≡◌, sym, ◌∙◌}
use mathlib.Core.Logic.{⊎_elim}
use mathlib.Core.List.{List}
use Prim.Native.Nat.{ℕ, ◌+◌, ◌*◌, ◌<◌, ◌≤◌}
use native.Mathlib.Omega.{arith}
use lib.ListN.{length}
use lib.Seq.{ext_get_or}
use Rattle.machine.proofs.Table.{apart}
use Rattle.rights_matrix.proofs.Parts.{part_at, part_length, put-length, put-before, put_in, put-behind}
use Rattle.working_theory.specs.State.{ring_at, with_ring}

module _ (rings : List ℕ) (m : ℕ) (size : length rings ≡ 12 * m) (e : ℕ) (l : e < m) where
  there : 12 * e + 12 ≤ length rings
  there = omega arith

  pub ring-length : length (ring_at rings e) ≡ 12
  ring-length = part_length rings (12 * e) 12 there

  module _ (r : List ℕ) (twelve : length r ≡ 12) where
    pub with-length : length (with_ring rings e r) ≡ 12 * m
    with-length = put-length rings (12 * e) 12 r there twelve ∙ size

    pub ring-same : ring_at (with_ring rings e r) e ≡ r
    ring-same =
        let long : length (ring_at (with_ring rings e r) e) ≡ 12 = part_length (with_ring rings e r) (12 * e) 12 (omega (arith, with-length)) in
        ext_get_or 0 (ring_at (with_ring rings e r) e) r (long ∙ sym twelve)
        (λ i b.
        let below : i < 12 = omega (arith, long) in
        part_at (with_ring rings e r) (12 * e) 12 i below ∙ put_in rings (12 * e) 12 r there twelve i below)

    pub ring-other : (f : ℕ) → f < m → (f ≡ e → ⊥) → ring_at (with_ring rings e r) f ≡ ring_at rings f
    ring-other f b ne =
        let long : length (ring_at (with_ring rings e r) f) ≡ 12 = part_length (with_ring rings e r) (12 * f) 12 (omega (arith, with-length)) in
        let old : length (ring_at rings f) ≡ 12 = part_length rings (12 * f) 12 (omega arith) in
        ext_get_or 0 (ring_at (with_ring rings e r) f) (ring_at rings f) (long ∙ sym old)
        (λ i k.
        let below : i < 12 = omega (arith, long) in
        part_at (with_ring rings e r) (12 * f) 12 i below
        ∙ ⊎_elim (λ x. put-before rings (12 * e) 12 r there twelve (12 * f + i) (omega arith))
        (λ x. put-behind rings (12 * e) 12 r there twelve (12 * f + i) (omega arith))
        (apart f e ne)
        ∙ sym (part_at rings (12 * f) 12 i below))
