-- The answer words, as the code makes them: the first of the call's first word, the data by digits. Assumes nothing.
use mathlib.Core.Path.{◌≡◌, sym, ap, ◌∙◌}
use mathlib.Core.Bool.{Bool, true, false, cond}
use mathlib.Core.List.{List, [], ◌∷◌}
use Prim.Native.Nat.{ℕ, ◌+◌, ◌*◌, ◌-◌, ◌%◌, ◌^◌, ◌<◌, ◌≤◌}
use native.Mathlib.Nat.{add-zero, div-add-mod'}
use native.Mathlib.Decide.{ℕ_discrete}
use native.Mathlib.Omega.{arith}
use lib.Arith.{mod-mul}
use lib.Dec.{eqb, ltb, lit<}
use lib.ListN.{length}
use borrow.Author.Tests.{lt-ltb, le-ltb, le-leb, lt-leb, ne_eqb}
use Rattle.std.specs.Prelude.{Result, Ok, Err}
use Rattle.std.specs.Result.{result_unwrap_or}
use Rattle.result_code.specs.Code.{result_code}
use Rattle.calls.specs.Number.{number_of}
use Rattle.calls.specs.declared.Refusal.{Refusal}
use Rattle.machine.specs.Word.{kind, caller}
use Rattle.machine.specs.Table.{domains, endpoints, rights_at, endpoint_at, rights, endpoint}
use Rattle.machine.specs.Queue.{owner}
use Rattle.machine.specs.Call.{first, Call.one}
use Rattle.machine.specs.Machine.{owned_bits, rights_bits, shown_caller, answer_word}
use Rattle.machine.proofs.Below.{sum_same}
use Rattle.table_layout.proofs.Places.{eight-bits}
use Rattle.answers.specs.Answer.{answer_of, head_of, has_endpoints, has_row}
use Rattle.answers.specs.Eight.{Eight}
use Rattle.answers.proofs.Digits.{digit_sum, digits-end}

-- two answers that differ in the first word at most
pub same_head : {h k x y : ℕ} → h ≡ k → h ∷ x ∷ y ∷ [] ≡ k ∷ x ∷ y ∷ []
same_head {h} {k} {x} {y} e = ap (λ (w : ℕ). w ∷ x ∷ y ∷ []) e

-- a code is added to the first word without one
pub head-code : (w n : ℕ) → head_of w + n ≡ answer_word (one w) n
unfolding head_of answer_word shown_caller first
head-code w n = ap (λ (x : ℕ). x + n) (add-zero _)

-- a call's answer by its outcome
pub answered : (w : ℕ) (o : Result (ℕ × ℕ) Refusal)
    → (head_of w + result_code number_of o) ∷ (result_unwrap_or o (0, 0)).0 ∷ (result_unwrap_or o (0, 0)).1 ∷ [] ≡ answer_of w o
answered w (Ok (x, y)) = same_head (head-code w 0)
answered w (Err r) = same_head (head-code w (number_of r))

pub head_stray : (w : ℕ) → kind w ≡ 15 → w - w % 268435456 ≡ head_of w
unfolding head_of answer_word shown_caller first
head_stray w is = rw is (omega arith)

-- the word is its kind, its caller and its lowest 22 bits
fields : (w k p u r : ℕ) → k * 268435456 + p ≡ w → p ≡ u * 4194304 + r → w - r ≡ k * 268435456 + u * 4194304 + 0
fields w k p u r e f = omega arith

pub head_other : (w : ℕ) → (kind w ≡ 15 → ⊥) → w - w % 4194304 ≡ head_of w
unfolding head_of answer_word shown_caller first
head_other w other =
    rw (ne_eqb (kind w) 15 other)
    (fields w (kind w) (w % 268435456) (caller w) (w % 4194304) (div-add-mod' w 268435456)
    (mod-mul w {m = 64} {c = 4194304} (lit< tt) (lit< tt)))

-- there is space for a code in it
pub head_room : (w : ℕ) → w < 2 ^ 32 → head_of w + 23 < 2 ^ 32
head_room w fits = go (ℕ_discrete (kind w) 15)
  where
    go : Dec (kind w ≡ 15) → head_of w + 23 < 2 ^ 32
    go (yes is) = omega (arith, head_stray w is)
    go (no other) = omega (arith, head_other w other)

-- the places of the data, by n: in the table or past it
module _ (t : List ℕ) (n : ℕ) (is : n ≡ domains t) where
  by-own : (i : ℕ) → endpoint_at (n % 256) i ≡ endpoint_at (domains t) i
  by-own i = ap (λ (k : ℕ). endpoint_at k i) (eight-bits t n is ∙ is)

  module _ (m at : ℕ) (all : m ≡ endpoints t) (end : at ≡ endpoint_at (n % 256) m) where
    own-end : at ≡ endpoint_at (domains t) (endpoints t)
    own-end = end ∙ by-own m ∙ ap (endpoint_at (domains t)) all

    pub endpoints_there : at ≤ length t → has_endpoints t ≡ true
    unfolding has_endpoints
    endpoints_there h = rw own-end at (le-leb at (length t) h)

    pub endpoints_past : length t < at → has_endpoints t ≡ false
    unfolding has_endpoints
    endpoints_past h = rw own-end at (lt-leb at (length t) h)

  module _ (u at : ℕ) (end : at ≡ rights_at n u n) where
    own_row : at ≡ rights_at (domains t) u (domains t)
    own_row = end ∙ ap (λ (k : ℕ). rights_at k u k) is

    pub rights_there : at ≤ length t → has_row t u ≡ true
    unfolding has_row
    rights_there h = rw own_row at (le-leb at (length t) h)

    pub rights_past : length t < at → has_row t u ≡ false
    unfolding has_row
    rights_past h = rw own_row at (lt-leb at (length t) h)

-- bit e of the owned endpoints
abbrev pub owns_at : List ℕ → ℕ → ℕ → ℕ
owns_at t u e = cond (eqb (owner (endpoint t e)) u) 1 0

pub owned-digits : (t : List ℕ) (u : ℕ) → digit_sum 2 (owns_at t u) (endpoints t) ≡ owned_bits t u
unfolding owned_bits
owned-digits t u = sum_same (endpoints t) _ _ (λ e l. go (eqb (owner (endpoint t e)) u) (2 ^ e))
  where
    go : (b : Bool) (p : ℕ) → cond b 1 0 * p ≡ cond b p 0
    go true p = omega arith
    go false p = omega arith

-- the rights on the target g + i, where there is one
abbrev pub rights_on : List ℕ → ℕ → ℕ → ℕ → ℕ
rights_on t u g i = cond (ltb (g + i) (domains t)) (rights t u (g + i)) 0

-- where there is none
no-right : (t : List ℕ) (u g i : ℕ) → domains t ≤ g + i → rights_on t u g i ≡ 0
no-right t u g i past = rw (le-ltb (g + i) (domains t) past)

module _ (t : List ℕ) (n : ℕ) (is : n ≡ domains t) (u : ℕ) where
  -- the rights on the targets from low up to high are all that the data word shows
  pub rights-start : (low high : ℕ) → Eight n low high → digit_sum 16 (rights_on t u low) (high - low) ≡ rights_bits t u low
  unfolding rights_bits
  rights-start low high e =
      let count = high - low in
      let all : 8 ≡ count + (8 - count) = omega (arith, e.few) in
      sym
      (ap (digit_sum 16 (rights_on t u low)) all
      ∙ digits-end 16 (rights_on t u low) count (8 - count)
      (λ i from less. no-right t u low i (omega (arith, e.all i (omega (arith, e.few)) (omega arith), is))))

  pub rights-digit : (low target : ℕ) → low < target → target ≤ n → rights t u (target - 1) ≡ rights_on t u low (target - low - 1)
  rights-digit low target l w =
      let at : target - 1 ≡ low + (target - low - 1) = omega arith in
      let there : target - 1 < domains t = omega (arith, is) in
      let shown : rights t u (target - 1) ≡ cond (ltb (target - 1) (domains t)) (rights t u (target - 1)) 0 = rw (lt-ltb _ _ there) in
      shown ∙ ap (λ (g : ℕ). cond (ltb g (domains t)) (rights t u g) 0) at

-- what the code keeps of a digit more
pub bit-more : (acc all x : ℕ) → x ≤ 1 → acc ≡ all % 2 ^ 32 → acc % 2147483648 * 2 + x ≡ (all * 2 + x) % 2 ^ 32
bit-more acc all x few is = omega (arith, few, is)

pub one-bit : (b : Bool) → cond b 1 0 ≤ 1
one-bit true = omega arith
one-bit false = omega arith

pub four-more : (acc all x : ℕ) → acc ≡ all % 2 ^ 32 → (acc * 16 + x) % 4294967296 ≡ (all * 16 + x) % 2 ^ 32
four-more acc all x is = omega (arith, is)
