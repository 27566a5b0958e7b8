-- Laws of sets of rights (specs/Right). A right is one bit, so a single right is 2 ^ k: SEND at k 0, GRANT at 1, REMOVE at 2,
-- REVOKE at 3. The laws of bits hold of all numbers. The count of rights is used only by one computed test, `union-within`.
-- Assumes nothing.
use mathlib.Core.Path.{◌≡◌, refl, sym, ap, ap₂, ◌∙◌}
use mathlib.Core.Bool.{true, false, not, ◌&&◌, ◌||◌}
use Prim.Native.Nat.{ℕ, zero, suc, ◌+◌, ◌*◌, ◌-◌, ◌/◌, ◌%◌, ◌^◌, ◌<◌, ◌≤◌, min}
use native.Mathlib.Nat.{mod-lt, zero-lt-suc}
use native.Mathlib.Omega.{arith}
use borrow.Author.Tests.{leb-true, eqb-true, eqb-false, le-leb, eq-eqb, ne_eqb, not-true, not-false}
use lib.Arith.{bin_ind, digits_mod}
use lib.Pow.{pow_pos, pow-add}
use lib.Dec.{eqb, leb}
use lib.Bits.{bit_and, bit_or, bit_xor, and_step, and_self, and_le_l, and_shr, and_mod, and_high, or_shr, or_mod, xor_add_and, xor_shr, xor_mod}
use Rattle.machine.specs.Below.{all_below}
use Rattle.machine.specs.Word.{kind, payload, word}
use Rattle.machine.specs.Right.{all_rights, holds, adds, without, has_any}
use Rattle.machine.specs.Check.{rights_word_ok}
use Rattle.machine.proofs.Bools.{and_right, and_intro}
use Rattle.machine.proofs.Below.{all-at}

-- ---- bits, of any numbers

and-odd : (a b : ℕ) → bit_and a b % 2 ≡ min (a % 2) (b % 2)
and-odd a b = ap (λ (x : ℕ). x % 2) (and_step a b) ∙ digits_mod (bit_and (a / 2) (b / 2)) (omega arith)

pub and_assoc : (a b c : ℕ) → bit_and (bit_and a b) c ≡ bit_and a (bit_and b c)
and_assoc =
    bin_ind (λ (n : ℕ). (b c : ℕ) → bit_and (bit_and n b) c ≡ bit_and n (bit_and b c)) (λ b c. refl)
    (λ n ih b c.
    let odd : min (bit_and n b % 2) (c % 2) ≡ min (n % 2) (bit_and b c % 2) = omega (arith, and-odd n b, and-odd b c) in
    and_step (bit_and n b) c
    ∙ ap₂ (λ (x y : ℕ). x * 2 + y)
    (ap (λ (x : ℕ). bit_and x (c / 2)) (and_shr n b 1) ∙ ih (b / 2) (c / 2) ∙ ap (bit_and (n / 2)) (sym (and_shr b c 1)))
    odd
    ∙ sym (and_step n (bit_and b c)))

-- bit k of a number
abbrev pub bit : ℕ → ℕ → ℕ
bit a k = a / 2 ^ k % 2

bit-small : (a k : ℕ) → bit a k < 2
bit-small a k = mod-lt (a / 2 ^ k) (zero-lt-suc 1)

and_pow : (a k : ℕ) → bit_and a (2 ^ k) ≡ bit a k * 2 ^ k
and_pow a k = ap (bit_and a) (omega (arith, pow-add 2 1 k)) ∙ and_high a 1 k

or-bit : (a b k : ℕ) → bit (bit_or a b) k ≡ bit_or (bit a k) (bit b k)
or-bit a b k = ap (λ (x : ℕ). x % 2) (or_shr a b k) ∙ or_mod (a / 2 ^ k) (b / 2 ^ k) 1

and-bit : (a b k : ℕ) → bit (bit_and a b) k ≡ bit_and (bit a k) (bit b k)
and-bit a b k = ap (λ (x : ℕ). x % 2) (and_shr a b k) ∙ and_mod (a / 2 ^ k) (b / 2 ^ k) 1

xor-bit : (a b k : ℕ) → bit (bit_xor a b) k ≡ bit_xor (bit a k) (bit b k)
xor-bit a b k = ap (λ (x : ℕ). x % 2) (xor_shr a b k) ∙ xor_mod (a / 2 ^ k) (b / 2 ^ k) 1

-- what is taken from a set is part of it, so that no bit is borrowed
minus-xor : (a b : ℕ) → a - bit_and a b ≡ bit_xor a (bit_and a b)
minus-xor a b =
    let part : bit_and a (bit_and a b) ≡ bit_and a b = sym (and_assoc a a b) ∙ ap (λ (x : ℕ). bit_and x b) (and_self a) in
    omega (arith, xor_add_and a (bit_and a b), and_le_l a b)

minus-bit : (a b k : ℕ) → bit (a - bit_and a b) k ≡ bit_xor (bit a k) (bit_and (bit a k) (bit b k))
minus-bit a b k =
    ap (λ (x : ℕ). bit x k) (minus-xor a b)
    ∙ xor-bit a (bit_and a b) k
    ∙ ap (bit_xor (bit a k)) (and-bit a b k)

-- ---- a single right

-- a law of bits is one of 0 and 1
both_bits : (P : ℕ → ℕ → Type 0) → P 0 0 → P 0 1 → P 1 0 → P 1 1 → (x y : ℕ) → x < 2 → y < 2 → P x y
both_bits P a b c d zero zero p q = a
both_bits P a b c d zero (suc zero) p q = b
both_bits P a b c d zero (suc (suc y)) p q = absurd (omega arith)
both_bits P a b c d (suc zero) zero p q = c
both_bits P a b c d (suc zero) (suc zero) p q = d
both_bits P a b c d (suc zero) (suc (suc y)) p q = absurd (omega arith)
both_bits P a b c d (suc (suc x)) y p q = absurd (omega arith)

-- a set holds the right 2 ^ k when its bit k is 1
pub holds-bit : (s k : ℕ) → holds s (2 ^ k) ≡ eqb (bit s k) 1
unfolding holds
holds-bit s k = ap (λ (x : ℕ). eqb x (2 ^ k)) (and_pow s k) ∙ go (bit s k) (bit-small s k)
  where
    go : (x : ℕ) → x < 2 → eqb (x * 2 ^ k) (2 ^ k) ≡ eqb x 1
    go zero h = ne_eqb (0 * 2 ^ k) (2 ^ k) (λ e. omega (arith, pow_pos k))
    go (suc zero) h = eq-eqb (1 * 2 ^ k) (2 ^ k) (omega arith)
    go (suc (suc x)) h = absurd (omega arith)

pub holds-adds : (a b k : ℕ) → holds (adds a b) (2 ^ k) ≡ (holds a (2 ^ k) || holds b (2 ^ k))
unfolding adds
holds-adds a b k =
    holds-bit (bit_or a b) k
    ∙ ap (λ (x : ℕ). eqb x 1) (or-bit a b k)
    ∙ both_bits (λ x y. eqb (bit_or x y) 1 ≡ (eqb x 1 || eqb y 1)) refl refl refl refl (bit a k) (bit b k) (bit-small a k) (bit-small b k)
    ∙ sym (ap₂ ◌||◌ (holds-bit a k) (holds-bit b k))

pub holds-without : (a b k : ℕ) → holds (without a b) (2 ^ k) ≡ (holds a (2 ^ k) && not (holds b (2 ^ k)))
unfolding without
holds-without a b k =
    holds-bit (a - bit_and a b) k
    ∙ ap (λ (x : ℕ). eqb x 1) (minus-bit a b k)
    ∙ both_bits (λ x y. eqb (bit_xor x (bit_and x y)) 1 ≡ (eqb x 1 && not (eqb y 1))) refl refl refl refl (bit a k) (bit b k) (bit-small a k) (bit-small b k)
    ∙ sym (ap₂ (λ x y. x && not y) (holds-bit a k) (holds-bit b k))

-- ---- sets of rights

pub holds-trans : (a b c : ℕ) → holds a b ≡ true → holds b c ≡ true → holds a c ≡ true
unfolding holds
holds-trans a b c p q =
    let ab : bit_and a b ≡ b = eqb-true _ _ p in
    let bc : bit_and b c ≡ c = eqb-true _ _ q in
    eq-eqb _ _ (ap (bit_and a) (sym bc) ∙ sym (and_assoc a b c) ∙ ap (λ (x : ℕ). bit_and x c) ab ∙ bc)

-- a part is no larger than the set
pub holds-le : (s r : ℕ) → holds s r ≡ true → r ≤ s
unfolding holds
holds-le s r p = omega (arith, eqb-true (bit_and s r) r p, and_le_l s r)

pub without-le : (s r : ℕ) → without s r ≤ s
unfolding without
without-le s r = omega arith

-- the sets of rights are closed under union: tried at each two of them
union-within : all_below (suc all_rights) (λ a. all_below (suc all_rights) (λ b. leb (adds a b) all_rights)) ≡ true
unfolding all_below adds
union-within = refl

pub adds-within : (a b : ℕ) → a ≤ all_rights → b ≤ all_rights → adds a b ≤ all_rights
adds-within a b p q =
    leb-true _ _
    (all-at (suc all_rights) (λ y. leb (adds a y) all_rights)
    (all-at (suc all_rights) (λ x. all_below (suc all_rights) (λ y. leb (adds x y) all_rights)) union-within a (omega arith))
    b
    (omega arith))

-- ---- whether a set has any right

pub has-any : (s : ℕ) → (s ≡ 0 → ⊥) → has_any s ≡ true
unfolding has_any
has-any s ne = ap not (ne_eqb s 0 ne)

pub has-none : (s : ℕ) → has_any s ≡ false → s ≡ 0
unfolding has_any
has-none s h = eqb-true s 0 (not-false _ h)

pub none-held : has_any 0 ≡ false
unfolding has_any
none-held = refl

pub any-nonzero : (s : ℕ) → has_any s ≡ true → s ≡ 0 → ⊥
unfolding has_any
any-nonzero s h = eqb-false s 0 (not-true _ h)

pub holds-any : (s r : ℕ) → (r ≡ 0 → ⊥) → holds s r ≡ true → has_any s ≡ true
holds-any s r ne h = has-any s (λ e. ne (omega (arith, holds-le s r h)))

-- ---- a rights word

module _ (s : ℕ) (within : s ≤ all_rights) where
  pub rights-kind : kind (word 2 s) ≡ 2
  rights-kind = omega arith

  pub rights-payload : payload (word 2 s) ≡ s
  rights-payload = omega arith

  pub rights-word-ok : rights_word_ok (word 2 s) ≡ true
  unfolding rights_word_ok
  rights-word-ok = and_intro (eq-eqb _ _ rights-kind) (le-leb (payload (word 2 s)) all_rights (omega arith))

module _ (w : ℕ) (ok : rights_word_ok w ≡ true) where
  pub rights-within : payload w ≤ all_rights
  unfolding rights_word_ok
  rights-within = leb-true _ _ (and_right (eqb (kind w) 2) (leb (payload w) all_rights) ok)
