-- A number by its digits, the last first: each step multiplies what it has and adds the next digit. Assumes nothing.
use mathlib.Core.Path.{◌≡◌, refl, sym, ap, ◌∙◌}
use Prim.Native.Nat.{ℕ, zero, suc, ◌+◌, ◌*◌, ◌-◌, ◌%◌, ◌^◌, ◌<◌, ◌≤◌}
use native.Mathlib.Nat.{add-zero, add-suc, zero-mul, mul-one, pow-zero, pow-suc, add-mul, mul_assoc, mul_comm, mul-le-mul_right}
use native.Mathlib.Omega.{arith}
use Rattle.machine.specs.Below.{sum_below}

-- the number whose digits to the base b are d 0, d 1, .. , d (k - 1)
abbrev pub digit_sum : ℕ → (ℕ → ℕ) → ℕ → ℕ
digit_sum b d k = sum_below k (λ i. d i * b ^ i)

-- digits that are zero add nothing
pub digits-end : (b : ℕ) (d : ℕ → ℕ) (k j : ℕ) → ((i : ℕ) → k ≤ i → i < k + j → d i ≡ 0) → digit_sum b d (k + j) ≡ digit_sum b d k
unfolding sum_below
digits-end b d k zero none = ap (digit_sum b d) (add-zero k)
digits-end b d k (suc j) none =
    let last : d (k + j) * b ^ (k + j) ≡ 0 =
    ap (λ (x : ℕ). x * b ^ (k + j)) (none (k + j) (omega arith) (omega arith)) ∙ zero-mul (b ^ (k + j)) in
    ap (digit_sum b d) (add-suc k j) ∙ omega (arith, digits-end b d k j (λ i l h. none i l (omega arith)), last)

-- digits below the base make a number with as many digits
pub digits-below : (b : ℕ) (d : ℕ → ℕ) (k : ℕ) → ((i : ℕ) → i < k → d i < b) → digit_sum b d k < b ^ k
unfolding sum_below
digits-below b d zero small = rw pow-zero (omega arith)
digits-below b d (suc k) small =
    let rest : digit_sum b d k < b ^ k = digits-below b d k (λ i l. small i (omega arith)) in
    let top : (d k + 1) * b ^ k ≤ b * b ^ k = mul-le-mul_right (b ^ k) (omega (arith, small k (omega arith))) in
    rw (pow-suc, mul_comm (b ^ k) b) (omega (arith, add-mul (d k) 1 (b ^ k)))

-- the digits from e on are in acc, and those below e are still to be found
abbrev Found : ℕ → (ℕ → ℕ) → ℕ → ℕ → ℕ → Type 0
Found b d e acc whole = acc * b ^ e + digit_sum b d e ≡ whole

none_found : (b : ℕ) (d : ℕ → ℕ) (k : ℕ) → Found b d k 0 (digit_sum b d k)
none_found b d k = omega (arith, zero-mul (b ^ k))

next-digit : (b : ℕ) (d : ℕ → ℕ) (k acc whole : ℕ) → Found b d (suc k) acc whole → Found b d k (acc * b + d k) whole
unfolding sum_below
next-digit b d k acc whole is =
    let up : acc * b ^ suc k ≡ acc * b * b ^ k =
    ap (λ (p : ℕ). acc * p) (pow-suc b k ∙ mul_comm (b ^ k) b) ∙ sym (mul_assoc acc b (b ^ k)) in
    omega (arith, add-mul (acc * b) (d k) (b ^ k))

-- one digit more, which the code finds to be x
one_found : (b : ℕ) (d : ℕ → ℕ) (e acc whole x : ℕ)
    → 0 < e
    → Found b d e acc whole
    → x ≡ d (e - 1)
    → Found b d (e - 1) (acc * b + x) whole
one_found b d e acc whole x pos is digit =
    let back : e ≡ suc (e - 1) = omega arith in
    ap (λ (y : ℕ). (acc * b + y) * b ^ (e - 1) + digit_sum b d (e - 1)) digit
    ∙ next-digit b d (e - 1) acc whole (sym (ap (λ (k : ℕ). acc * b ^ k + digit_sum b d k) back) ∙ is)

all_found : (b : ℕ) (d : ℕ → ℕ) (acc whole : ℕ) → Found b d 0 acc whole → acc ≡ whole
unfolding sum_below
all_found b d acc whole is = omega (arith, ap (λ (p : ℕ). acc * p) (pow-zero b), mul-one acc)

-- the same with only the lowest 32 bits of what is found
pub record Kept (b : ℕ) (d : ℕ → ℕ) (e acc whole : ℕ) : Type 0 where
  pub all : ℕ
  pub found : Found b d e all whole
  pub lowest : acc ≡ all % 2 ^ 32

pub none_kept : (b : ℕ) (d : ℕ → ℕ) (k : ℕ) → Kept b d k 0 (digit_sum b d k)
none_kept b d k = record { all = 0; found = none_found b d k; lowest = refl }

-- one digit more: the code has x and makes acc' of what it kept
pub one_kept : (b : ℕ) (d : ℕ → ℕ) (e acc whole x acc' : ℕ)
    → 0 < e
    → Kept b d e acc whole
    → x ≡ d (e - 1)
    → ((all : ℕ) → acc ≡ all % 2 ^ 32 → acc' ≡ (all * b + x) % 2 ^ 32)
    → Kept b d (e - 1) acc' whole
one_kept b d e acc whole x acc' pos k digit step =
    record {
      all = k.all * b + x;
      found = one_found b d e k.all whole x pos k.found digit;
      lowest = step k.all k.lowest;
    }

pub all-kept : (b : ℕ) (d : ℕ → ℕ) (acc whole : ℕ) → Kept b d 0 acc whole → acc ≡ whole % 2 ^ 32
all-kept b d acc whole k = k.lowest ∙ ap (λ (x : ℕ). x % 2 ^ 32) (all_found b d k.all whole k.found)
