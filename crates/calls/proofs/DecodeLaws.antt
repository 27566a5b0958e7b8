-- The decoding of a call, by what the code tests: a sum for the unused fields, a match for the second word and for the kind.
-- Assumes nothing.
use Prim.Native.Nat.{ℕ, ◌+◌, ◌*◌, ◌%◌}
use mathlib.Core.Path.{◌≡◌, refl, sym, ap, ◌∙◌}
use mathlib.Core.Logic.{◌↔◌}
use mathlib.Core.Bool.{Bool, true, false, not, ◌&&◌}
use mathlib.Core.List.{List, [], ◌∷◌}
use native.Mathlib.Omega.{arith}
use lib.Arith.{mod-mul}
use lib.Dec.{eqb, lit<}
use borrow.Author.Tests.{eqb-true, eqb-false, eq-eqb, ne_eqb}
use Rattle.std.specs.Prelude.{Option, None}
use Rattle.machine.specs.Word.{caller, field_a, field_b, field_c}
use Rattle.machine.specs.Call.{Kind, unused_fields, all_zero, has_second}
use Rattle.calls.specs.Decode.{needs_second, whole}
use Rattle.calls.specs.Split.{call_of}
use Rattle.calls.specs.declared.Call.{Call}
use Rattle.calls.specs.declared.Call.TheVariants.{Refused}
use Rattle.calls.specs.declared.Refusal.TheVariants.{UnusedField, NoSecondWord}

abbrev pub total : List ℕ → ℕ
total [] = 0
total (x ∷ xs) = x + total xs

-- all are zero when their sum is
zero-sum : (x y : ℕ) → (eqb x 0 && eqb y 0) ≡ eqb (x + y) 0
zero-sum x y = go (eqb x 0) refl
  where
    go : (b : Bool) → eqb x 0 ≡ b → (b && eqb y 0) ≡ eqb (x + y) 0
    go true e = let z : x ≡ 0 = eqb-true x 0 e in let s : y ≡ x + y = omega arith in ap (λ (n : ℕ). eqb n 0) s
    go false e = sym (ne_eqb (x + y) 0 (λ h. eqb-false x 0 e (omega arith)))

all-zero : (xs : List ℕ) → all_zero xs ≡ eqb (total xs) 0
unfolding all_zero
all-zero [] = refl
all-zero (x ∷ xs) = ap (λ (b : Bool). eqb x 0 && b) (all-zero xs) ∙ zero-sum x (total xs)

-- the lowest 22 bits are A, B and C
low_bits : (w : ℕ) → w % 4194304 ≡ field_a w * 65536 + (field_b w * 256 + field_c w)
low_bits w =
    mod-mul w {m = 64} {c = 65536} (lit< tt) (lit< tt)
    ∙ ap (λ (r : ℕ). field_a w * 65536 + r) (mod-mul w {m = 256} {c = 256} (lit< tt) (lit< tt))

digits : (x a b c : ℕ) → x ≡ a * 65536 + (b * 256 + c) → (x ≡ 0) ↔ (total (a ∷ b ∷ c ∷ []) ≡ 0)
digits x a b c e = ((λ z. omega arith), (λ z. omega arith))

pub no_field : (w : ℕ) → (w % 4194304 ≡ 0) ↔ (total (field_a w ∷ field_b w ∷ field_c w ∷ []) ≡ 0)
no_field w = digits (w % 4194304) (field_a w) (field_b w) (field_c w) (low_bits w)

-- the result of the places 13 and 14: 13 refuses, neither does, or 14 does
module _ (w : ℕ) (s : Option ℕ) (k : Kind) (next : Call) where
  pub unused : (total (unused_fields k w) ≡ 0 → ⊥) → Refused (caller w) UnusedField ≡ whole w s k next
  unfolding whole
  unused h = rw (all-zero, ne_eqb _ _ h)

  pub fine : total (unused_fields k w) ≡ 0
      → (needs_second k && not (has_second (call_of w s))) ≡ false
      → next ≡ whole w s k next
  unfolding whole
  fine h second = rw (all-zero, eq-eqb _ _ h, second)

pub no_second : (w : ℕ) (k : Kind) (next : Call)
    → total (unused_fields k w) ≡ 0
    → needs_second k ≡ true
    → Refused (caller w) NoSecondWord ≡ whole w None k next
unfolding whole has_second
no_second w k next h wants = rw (all-zero, eq-eqb _ _ h, wants)
