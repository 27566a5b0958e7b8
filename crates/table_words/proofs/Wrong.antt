-- Bits that are wrong in a word, and what a loop gathers of them by `|`. Assumes nothing.
use mathlib.Core.Path.{◌≡◌, refl, sym, ap, ◌∙◌}
use mathlib.Core.Bool.{Bool, true, false, cond, ◌&&◌, ◌||◌, and-true, and-false}
use Prim.Native.Nat.{ℕ, ◌+◌, ◌-◌, ◌*◌, ◌%◌, ◌^◌, ◌<◌}
use native.Mathlib.Nat.{mod-eq_of_lt}
use native.Mathlib.Omega.{arith}
use borrow.Author.Tests.{eqb-true, eqb-false, eq-eqb, ne_eqb, lt-ltb, le-ltb, ltb-true, ltb-false, le-leb, lt-leb, leb-true, leb-false}
use lib.Dec.{eqb, ltb, leb}
use lib.Bits.{bit_and, bit_or, bit_xor, and_le_l, and_le_r, or_add_and, xor_add_and, xor_self, xor_lt, xor_shr, and_mask, and_high, or_zero_l, or_lt}
use Rattle.machine.specs.Word.{kind}
use Rattle.machine.specs.Right.{all_rights}
use Rattle.machine.specs.Queue.{empty_slot}
use Rattle.machine.specs.Check.{slot_word_ok}
use Rattle.table_words.specs.Wrong.{slot_asked, slot_wrong}
use Rattle.table_words.proofs.Scan.{Scanned, scan-next}

-- two tests that follow from each other
same_tests : (x y a b : ℕ) → (x ≡ y → a ≡ b) → (a ≡ b → x ≡ y) → eqb x y ≡ eqb a b
same_tests x y a b f g = go (eqb a b) refl
  where
    go : (t : Bool) → eqb a b ≡ t → eqb x y ≡ t
    go true e = eq-eqb x y (g (eqb-true a b e))
    go false e = ne_eqb x y (λ q. eqb-false a b e (f q))

-- no bit differs where two words are the same
pub none-differs : (a b : ℕ) → eqb (bit_xor a b) 0 ≡ eqb a b
none-differs a b =
    same_tests (bit_xor a b) 0 a b
    (λ q. omega (arith, xor_add_and a b, and_le_l a b, and_le_r a b))
    (λ e. ap (λ (x : ℕ). bit_xor x b) e ∙ xor_self b)

-- all bits of a word of 32 bits are tested
pub all_asked : (w x : ℕ) → w < 2 ^ 32 → x < 2 ^ 32 → eqb (bit_and (bit_xor w x) 4294967295) 0 ≡ eqb w x
all_asked w x l k =
    let h = xor_lt 32 w x l k in
    rw (and_mask (bit_xor w x) 32) (same_tests (bit_xor w x % 4294967296) 0 (bit_xor w x) 0 (λ q. omega arith) (λ q. omega arith) ∙ none-differs w x)

-- the kind alone is tested
top-zero : (k : ℕ) → k < 16 → eqb (k % 16 * 268435456) 0 ≡ eqb k 0
top-zero k l = rw (mod-eq_of_lt l) (same_tests (k * 268435456) 0 k 0 (λ q. omega arith) (λ q. rw q))

pub kind-asked : (w x : ℕ) → w < 2 ^ 32 → x < 2 ^ 32 → eqb (bit_and (bit_xor w x) 4026531840) 0 ≡ eqb (kind w) (kind x)
kind-asked w x l k =
    rw (and_high (bit_xor w x) 4 28, xor_shr w x 28)
    (top-zero (bit_xor (kind w) (kind x)) (xor_lt 4 (kind w) (kind x) (omega arith) (omega arith)) ∙ none-differs (kind w) (kind x))

-- A slot by its endpoint's waiting word: all of it is tested, or its kind alone.
slot_cases : (t : Bool) (w : ℕ) → w < 2 ^ 32 → eqb (bit_and (bit_xor w empty_slot) (cond t 4026531840 4294967295)) 0 ≡ (eqb (kind w) 15 && (t || eqb w empty_slot))
slot_cases true w l = kind-asked w empty_slot l (omega arith) ∙ sym (and-true (eqb (kind w) 15))
slot_cases false w l = all_asked w empty_slot l (omega arith) ∙ go (eqb w empty_slot) refl
  where
    go : (t : Bool) → eqb w empty_slot ≡ t → t ≡ (eqb (kind w) 15 && t)
    go true e = rw (eqb-true w empty_slot e)
    go false e = sym (and-false (eqb (kind w) 15))

-- the waiting word is above a slot's where the count is above its index
count-above : (waiting i : ℕ) → ltb (1342177280 + i) waiting ≡ ltb i (waiting - 1342177280)
count-above waiting i = go (ltb i (waiting - 1342177280)) refl
  where
    go : (t : Bool) → ltb i (waiting - 1342177280) ≡ t → ltb (1342177280 + i) waiting ≡ t
    go true e = lt-ltb (1342177280 + i) waiting (omega (arith, ltb-true i (waiting - 1342177280) e))
    go false e = le-ltb (1342177280 + i) waiting (omega (arith, ltb-false i (waiting - 1342177280) e))

pub slot_right : (waiting i w asked : ℕ) → w < 2 ^ 32 → asked ≡ cond (ltb (1342177280 + i) waiting) 4026531840 4294967295 → eqb (bit_and (bit_xor w empty_slot) asked) 0 ≡ slot_word_ok (waiting - 1342177280) i w
unfolding slot_word_ok
slot_right waiting i w asked l e =
    rw (e, count-above waiting i) (slot_cases (ltb i (waiting - 1342177280)) w l)

-- the bits that are asked for, by the whole waiting word
pub slot_is : (waiting i w asked : ℕ) → asked ≡ cond (ltb (1342177280 + i) waiting) 4026531840 4294967295
    → bit_and (bit_xor w empty_slot) asked ≡ slot_wrong waiting i w
unfolding slot_wrong slot_asked
slot_is waiting i w asked e = rw (e, count-above waiting i) refl

-- no bit is gathered where there was none and none is added
pub none-gathered : (a b : ℕ) → eqb (bit_or a b) 0 ≡ (eqb a 0 && eqb b 0)
none-gathered a b = go (eqb a 0) refl
  where
    go : (t : Bool) → eqb a 0 ≡ t → eqb (bit_or a b) 0 ≡ (t && eqb b 0)
    go true e = rw (eqb-true a 0 e) (ap (λ (x : ℕ). eqb x 0) (or_zero_l b))
    go false e = ne_eqb (bit_or a b) 0 (λ q. eqb-false a 0 e (omega (arith, or_add_and a b, and_le_r a b)))

-- rights alone are gathered where there were rights alone and rights alone are added
pub rights-gathered : (a b : ℕ) → leb (bit_or a b) 15 ≡ (leb a 15 && leb b 15)
rights-gathered a b = go (leb a 15) refl (leb b 15) refl
  where
    go : (t : Bool) → leb a 15 ≡ t → (u : Bool) → leb b 15 ≡ u → leb (bit_or a b) 15 ≡ (t && u)
    go true e true d = le-leb (bit_or a b) 15 (let h = or_lt 4 a b (let l = leb-true a 15 e in omega arith) (let l = leb-true b 15 d in omega arith) in omega arith)
    go true e false d = lt-leb (bit_or a b) 15 (let l = leb-false b 15 d in omega (arith, or_add_and a b, and_le_l a b))
    go false e u d = lt-leb (bit_or a b) 15 (let l = leb-false a 15 e in omega (arith, or_add_and a b, and_le_r a b))

-- A loop that gathers bits by `|` keeps its test (proofs/Scan): that none is wrong, or that those of rights alone are.
module _ (p : ℕ → Bool) (k wrong b i : ℕ) where
  pub scan-none : Scanned p k (eqb wrong 0) i → i < k → eqb b 0 ≡ p i → Scanned p k (eqb (bit_or wrong b) 0) (i + 1)
  scan-none s l e = rw (none-gathered wrong b) (scan-next p k _ _ i s l e)

  pub scan-rights : Scanned p k (leb wrong all_rights) i → i < k → leb b all_rights ≡ p i → Scanned p k (leb (bit_or wrong b) all_rights) (i + 1)
  scan-rights s l e = rw (rights-gathered wrong b) (scan-next p k _ _ i s l e)
