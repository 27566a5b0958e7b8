-- Laws of the tests, searches, sums, lists and sets of bits over the numbers below k (specs/Below).
-- Assumes nothing.
use mathlib.Core.Path.{◌≡◌, refl, sym, ap, ap₂, ◌∙◌}
use mathlib.Core.Bool.{Bool, true, false, cond, ◌&&◌, false≢true}
use mathlib.Core.Logic.{◌⊎◌, ◌⊎◌.inl, ◌⊎◌.inr, ⊎_elim}
use mathlib.Core.List.{List, [], ◌∷◌, ◌++◌, map, map-append}
use mathlib.Core.Option.{Option, none, some}
use Prim.Native.Nat.{ℕ, zero, suc, ◌+◌, ◌-◌, ◌*◌, ◌/◌, ◌%◌, ◌^◌, ◌<◌, ◌≤◌}
use native.Mathlib.Nat.{not-suc-le-zero, one-mul, add-mul-div_right, add-mul-mod_self_right, div-eq_of_lt, lt_of_lt_of_le, pow-suc}
use native.Mathlib.Decide.{dec_lt}
use native.Mathlib.Omega.{arith}
use lib.Dec.{eqb}
use lib.ListN.{length, get_or, length-append, get_or-append, get_or-eq_default}
use lib.Seq.{get_or_at}
use lib.Pow.{pow_pos, pow_mono, pow-add, shl_exact, high}
use Rattle.machine.specs.Below.{all_below, numbers_below, first_below, sum_below, words_below, bits_below, has_bit}
use Rattle.machine.proofs.Bools.{and_left, and_right, and_intro}

-- a number below suc k is below k or is k
pub below-or-last : (k i : ℕ) → i < suc k → (i < k) ⊎ (i ≡ k)
below-or-last k i h = go (dec_lt i k)
  where
    go : Dec (i < k) → (i < k) ⊎ (i ≡ k)
    go (yes l) = inl l
    go (no n) = inr (omega arith)

pub all-at : (k : ℕ) (p : ℕ → Bool) → all_below k p ≡ true → (i : ℕ) → i < k → p i ≡ true
unfolding all_below
all-at zero p h i l = absurd (not-suc-le-zero l)
all-at (suc k) p h i l =
    ⊎_elim (λ b. all-at k p (and_left (all_below k p) (p k) h) i b)
    (λ e. ap p e ∙ and_right (all_below k p) (p k) h)
    (below-or-last k i l)

pub all_of : (k : ℕ) (p : ℕ → Bool) → ((i : ℕ) → i < k → p i ≡ true) → all_below k p ≡ true
unfolding all_below
all_of zero p f = refl
all_of (suc k) p f = and_intro (all_of k p (λ i l. f i (omega arith))) (f k (omega arith))

-- a test that fails once fails for all
pub all-fails : (k : ℕ) (p : ℕ → Bool) (i : ℕ) → i < k → p i ≡ false → all_below k p ≡ false
all-fails k p i l e = go (all_below k p) refl
  where
    go : (b : Bool) → all_below k p ≡ b → b ≡ false
    go true h = absurd (false≢true (sym e ∙ all-at k p h i l))
    go false h = refl

-- two that agree below k
pub all_same : (k : ℕ) (p q : ℕ → Bool) → ((i : ℕ) → i < k → p i ≡ q i) → all_below k p ≡ all_below k q
unfolding all_below
all_same zero p q f = refl
all_same (suc k) p q f = ap₂ ◌&&◌ (all_same k p q (λ i l. f i (omega arith))) (f k (omega arith))

pub sum_same : (k : ℕ) (f g : ℕ → ℕ) → ((i : ℕ) → i < k → f i ≡ g i) → sum_below k f ≡ sum_below k g
unfolding sum_below
sum_same zero f g e = refl
sum_same (suc k) f g e = ap₂ ◌+◌ (sum_same k f g (λ i l. e i (omega arith))) (e k (omega arith))

pub first-same : (k : ℕ) (p q : ℕ → Bool) → ((i : ℕ) → i < k → p i ≡ q i) → first_below k p ≡ first_below k q
unfolding first_below
first-same zero p q e = refl
first-same (suc k) p q e =
    ap₂ (λ (o : Option ℕ) (b : Bool). elim o [ none ↦ cond b (some k) none | some i ↦ some i ])
    (first-same k p q (λ i l. e i (omega arith)))
    (e k (omega arith))

-- ---- the list of f below k

pub words-length : (k : ℕ) (f : ℕ → ℕ) → length (words_below k f) ≡ k
unfolding words_below
words-length zero f = refl
words-length (suc k) f = length-append (words_below k f) (f k ∷ []) ∙ rw (words-length k f) (omega arith)

pub words-at : (k : ℕ) (f : ℕ → ℕ) (i d : ℕ) → i < k → get_or (words_below k f) i d ≡ f i
unfolding words_below
words-at zero f i d l = absurd (not-suc-le-zero l)
words-at (suc k) f i d l =
    ⊎_elim
    (λ b. get_or-append (words_below k f) (f k ∷ []) d i (omega (arith, words-length k f)) ∙ words-at k f i d b)
    (λ e. get_or_at (words_below k f) (f k) [] d i (words-length k f ∙ sym e) ∙ ap f (sym e))
    (below-or-last k i l)

pub words-past : (k : ℕ) (f : ℕ → ℕ) (i d : ℕ) → k ≤ i → get_or (words_below k f) i d ≡ d
words-past k f i d l = get_or-eq_default (words_below k f) d (omega (arith, words-length k f))

pub words_same : (k : ℕ) (f g : ℕ → ℕ) → ((i : ℕ) → i < k → f i ≡ g i) → words_below k f ≡ words_below k g
unfolding words_below
words_same zero f g e = refl
words_same (suc k) f g e =
    ap₂ (λ (ws : List ℕ) (w : ℕ). ws ++ (w ∷ [])) (words_same k f g (λ i l. e i (omega arith))) (e k (omega arith))

-- ---- the set of bits below k

-- one more bit, as a digit before the others
bits-suc : (k : ℕ) (p : ℕ → Bool) → bits_below (suc k) p ≡ cond (p k) 1 0 * 2 ^ k + bits_below k p
unfolding bits_below sum_below
bits-suc k p = go (p k) (bits_below k p)
  where
    go : (b : Bool) (x : ℕ) → x + cond b (2 ^ k) 0 ≡ cond b 1 0 * 2 ^ k + x
    go true x = omega arith
    go false x = omega arith

pub bits-lt : (k : ℕ) (p : ℕ → Bool) → bits_below k p < 2 ^ k
unfolding bits_below sum_below
bits-lt zero p = omega arith
bits-lt (suc k) p = go (p k) (bits-lt k p)
  where
    go : (b : Bool) {x : ℕ} → x < 2 ^ k → x + cond b (2 ^ k) 0 < 2 ^ suc k
    go true h = omega (arith, pow-suc 2 k)
    go false h = omega (arith, pow-suc 2 k)

pub bits-same : (k : ℕ) (p q : ℕ → Bool) → ((i : ℕ) → i < k → p i ≡ q i) → bits_below k p ≡ bits_below k q
unfolding bits_below
bits-same k p q e = sum_same k _ _ (λ i l. ap (λ (b : Bool). cond b (2 ^ i) 0) (e i l))

-- a digit above bit i leaves it as it is
bit_below : (a x i j : ℕ) → has_bit (a * 2 ^ (suc j + i) + x) i ≡ has_bit x i
unfolding has_bit
bit_below a x i j =
    let shape : a * 2 ^ (suc j + i) + x ≡ x + (a * 2 ^ j * 2) * 2 ^ i = rw (pow-add 2 (suc j) i, pow-suc 2 j) (omega arith) in
    rw (shape, add-mul-div_right x (a * 2 ^ j * 2) (pow_pos i), add-mul-mod_self_right (x / 2 ^ i) (a * 2 ^ j) 2)

-- the digit at k is bit k
bit-last : (b : Bool) (k : ℕ) {x : ℕ} → x < 2 ^ k → has_bit (cond b 1 0 * 2 ^ k + x) k ≡ b
unfolding has_bit
bit-last b k h = rw (high (cond b 1 0) k h) (go b)
  where
    go : (b : Bool) → eqb (cond b 1 0 % 2) 1 ≡ b
    go true = refl
    go false = refl

pub bits_at : (k : ℕ) (p : ℕ → Bool) (i : ℕ) → i < k → has_bit (bits_below k p) i ≡ p i
bits_at zero p i l = absurd (not-suc-le-zero l)
bits_at (suc k) p i l =
    ap (λ (w : ℕ). has_bit w i) (bits-suc k p)
    ∙ ⊎_elim
    (λ b.
    let past : k ≡ suc (k - suc i) + i = omega arith in
    ap (λ (m : ℕ). has_bit (cond (p k) 1 0 * 2 ^ m + bits_below k p) i) past
    ∙ bit_below (cond (p k) 1 0) (bits_below k p) i (k - suc i)
    ∙ bits_at k p i b)
    (λ e. ap (has_bit (cond (p k) 1 0 * 2 ^ k + bits_below k p)) e ∙ bit-last (p k) k (bits-lt k p) ∙ ap p (sym e))
    (below-or-last k i l)

-- no bit is set from k on
pub bits-past : (k : ℕ) (p : ℕ → Bool) (i : ℕ) → k ≤ i → has_bit (bits_below k p) i ≡ false
unfolding has_bit
bits-past k p i l = rw (div-eq_of_lt (lt_of_lt_of_le (bits-lt k p) (pow_mono l)))

-- bit i by itself stays in a word of 32 bits
pub one_bit : (i : ℕ) → i < 32 → 1 * 2 ^ i % 2 ^ 32 ≡ 2 ^ i
one_bit i l = shl_exact 1 i 32 (omega arith) (omega arith) ∙ one-mul (2 ^ i)

-- two tests that agree below k, and two functions that agree on each number of which they hold
pub map_same : {A : Type 0} (k : ℕ) (p q : ℕ → Bool) (f g : ℕ → A) → ((i : ℕ) → i < k → p i ≡ q i) → ((i : ℕ) → i < k → q i ≡ true → f i ≡ g i) → map f (numbers_below k p) ≡ map g (numbers_below k q)
unfolding numbers_below
map_same zero p q f g e same = refl
map_same {A} (suc k) p q f g e same =
    map-append f (numbers_below k p) (cond (p k) (k ∷ []) [])
    ∙ ap₂ (λ (x y : List A). x ++ y) (map_same k p q f g (λ i l. e i (omega arith)) (λ i l. same i (omega arith))) last
    ∙ sym (map-append g (numbers_below k q) (cond (q k) (k ∷ []) []))
  where
    go : (b : Bool) → q k ≡ b → map f (cond b (k ∷ []) []) ≡ map g (cond b (k ∷ []) [])
    go true h = ap (λ (x : A). x ∷ []) (same k (omega arith) h)
    go false h = refl

    last : map f (cond (p k) (k ∷ []) []) ≡ map g (cond (q k) (k ∷ []) [])
    last = ap (λ (b : Bool). map f (cond b (k ∷ []) [])) (e k (omega arith)) ∙ go (q k) refl
