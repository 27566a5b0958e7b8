-- The ring of an endpoint as a part of the rings: what is read of it, and what is put back. Assumes nothing.
use mathlib.Core.Path.{◌≡◌, sym, ap, ◌∙◌}
use mathlib.Core.List.{List, ◌++◌}
use Prim.Native.Nat.{ℕ, ◌+◌, ◌-◌, ◌*◌, ◌<◌, ◌≤◌}
use native.Mathlib.Nat.{add-sub_cancel_left}
use native.Mathlib.Omega.{arith}
use lib.ListN.{length, get_or, take, drop, length-take, length-drop, take-append-drop}
use Rattle.machine.specs.Word.{field_b}
use Rattle.rights_matrix.proofs.Parts.{part_at}
use Rattle.ring.specs.Ring.{count, info, ring_owner, of_twelve}
use Rattle.ring.proofs.Words.{not-twelve}
use Rattle.working_theory.specs.State.{ring_at, with_ring}

-- what is read for a call
pub owner-read : (rings : List ℕ) (e w : ℕ) → w ≡ get_or rings (12 * e + 3) 0 → field_b w ≡ ring_owner (ring_at rings e)
unfolding ring_owner info
owner-read rings e w is = ap field_b (is ∙ sym (part_at rings (12 * e) 12 3 (omega arith)))

pub count-read : (rings : List ℕ) (e w : ℕ) → w ≡ get_or rings (12 * e + 1) 0 → w ≡ count (ring_at rings e)
unfolding count
count-read rings e w is = is ∙ sym (part_at rings (12 * e) 12 1 (omega arith))

module _ (rings : List ℕ) (e : ℕ) where
  pub lent : take (12 * e + 12 - 12 * e) (drop (12 * e) rings) ≡ ring_at rings e
  lent = ap (λ (k : ℕ). take k (drop (12 * e) rings)) (add-sub_cancel_left (12 * e) 12)

  pub twelve-lent : 12 * e + 12 ≤ length rings → length (take (12 * e + 12 - 12 * e) (drop (12 * e) rings)) ≡ 12
  twelve-lent there = ap length lent ∙ omega (arith, length-take 12 (drop (12 * e) rings), length-drop (12 * e) rings)

  pub back : (r : List ℕ) → take (12 * e) rings ++ (r ++ drop (12 * e + 12 - 12 * e) (drop (12 * e) rings)) ≡ with_ring rings e r
  back r = ap (λ (k : ℕ). take (12 * e) rings ++ (r ++ drop k (drop (12 * e) rings))) (add-sub_cancel_left (12 * e) 12)

  -- a ring put back as it was lent changes nothing
  pub same_back : with_ring rings e (ring_at rings e) ≡ rings
  same_back = ap (λ (rest : List ℕ). take (12 * e) rings ++ rest) (take-append-drop 12 (drop (12 * e) rings)) ∙ take-append-drop (12 * e) rings

  -- a ring of which words are missing doesn't have twelve
  not_there : length rings < 12 * e + 12 → length (ring_at rings e) ≡ 12 → ⊥
  not_there past twelve = omega (arith, length-take 12 (drop (12 * e) rings), length-drop (12 * e) rings)

  pub not-put : (r : List ℕ) → length rings < 12 * e + 12 → rings ≡ with_ring rings e (of_twelve (ring_at rings e) r (ring_at rings e))
  not-put r past = sym same_back ∙ ap (with_ring rings e) (not-twelve (ring_at rings e) r (ring_at rings e) (not_there past))

  -- such a ring shows nothing
  pub nothing-shown : (x : ℕ) → length rings < 12 * e + 12 → 0 ≡ of_twelve (ring_at rings e) x 0
  nothing-shown x past = not-twelve (ring_at rings e) x 0 (not_there past)
