-- A loop that counts the calls of a kind at each endpoint: what is counted plus what the remaining calls count is what the whole
-- list counts. Also a loop that fills a list. Assumes nothing.
use Prim.Native.Nat.{ℕ, ◌+◌, ◌<◌, ◌≤◌}
use mathlib.Core.Path.{◌≡◌, refl, sym, ap, ap₂, ◌∙◌}
use mathlib.Core.Bool.{Bool, true, false, cond, ◌&&◌}
use mathlib.Core.Logic.{⊎_elim}
use mathlib.Core.List.{List, [], ◌∷◌, ◌++◌}
use native.Mathlib.Numerals.{add-one}
use native.Mathlib.Omega.{arith}
use borrow.Author.Tests.{eq-eqb, ne_eqb}
use lib.Dec.{eqb}
use lib.ListN.{length, get_or, take, drop, set, replicate, length-set, drop_of_length-le, length-replicate, get_or-replicate}
use lib.Seq.{take-suc-set, get_or-set_same, get_or-set_other, get_or-drop, drop-drop, ext_get_or}
use Rattle.std.specs.Int.{from_bool}
use Rattle.machine.specs.Word.{kind, field_b, answer_code}
use Rattle.machine.specs.Below.{words_below}
use Rattle.machine.specs.Call.{Call, Kind, first, split, kind_number, one_of, kind_of, call_kind}
use Rattle.machine.specs.Counts.{is_send, is_receive, done_on, count_done}
use Rattle.machine.proofs.Below.{words-length, words-at}
use Rattle.machine.proofs.Table.{equal-either}
use Rattle.machine.proofs.KindCases.{kind-elim}
use Rattle.machine.proofs.Split.{split-few}
use Rattle.totals_theory.proofs.TotalsLaws.{done-few}
use Rattle.calls.specs.Split.{call_of, second_at, width_of}
use Rattle.calls.proofs.SplitAt.{first_of, split_at}

-- the next call begins at index i of the list, its answer at index at of the answers
pub record Counting (is : Kind → Bool) (list answers counts : List ℕ) (at i : ℕ) : Type 0 where
  pub sum : (e : ℕ) → e < 32 → get_or counts e 0 + count_done is e (split (drop i list)) (drop at answers) ≡ count_done is e (split list) answers
  pub size : length counts ≡ 32

pub counting-start : (is : Kind → Bool) (list answers : List ℕ) → Counting is list answers (replicate 32 0) 0 0
counting-start is list answers =
    record { sum = λ e l. omega (arith, get_or-replicate {A = ℕ} 32 e 0 0 l); size = length-replicate {A = ℕ} 32 0 }

-- 1 for a call of the kind k that was answered 0, by its first word and its answer's
abbrev pub one : ℕ → ℕ → ℕ → ℕ
one w answer k = cond (eqb (kind w) k && eqb (answer_code answer) 0) 1 0

-- the test passes the kind k and no other
abbrev pub Numbered : (Kind → Bool) → ℕ → Type 0
Numbered is k = (j : ℕ) → is (kind_of j) ≡ eqb j k

-- what a call adds at f: 1 where it is done and names f
adds-at : (is : Kind → Bool) (k f : ℕ) (c : Call) (w answer : ℕ) (ws : List ℕ) → Numbered is k → first c ≡ w
    → get_or ws 0 0 ≡ answer → cond (done_on is f c ws) 1 0 ≡ cond (eqb (field_b w) f) (one w answer k) 0
unfolding done_on call_kind
adds-at is k f c w answer ws numbered of-call is-first =
    rw (of-call, numbered (kind w), is-first) (go (eqb (kind w) k) (eqb (field_b w) f) (eqb (answer_code answer) 0))
  where
    go : (a b z : Bool) → ◌≡◌ {A = ℕ} (cond (a && b && z) 1 0) (cond b (cond (a && z) 1 0) 0)
    go true true z = refl
    go true false z = refl
    go false true z = refl
    go false false z = refl

-- of the call at index i of a list, whose answer is at index at: the endpoint that it names, and what it adds there
abbrev pub named_at : List ℕ → ℕ → ℕ
named_at list i = field_b (get_or list i 0)

abbrev pub adds_at : List ℕ → List ℕ → ℕ → ℕ → ℕ → ℕ
adds_at list answers at i k = one (get_or list i 0) (get_or answers at 0) k

-- the same as the code reads it: whether the call was done, as a number
pub adds-one : (list answers : List ℕ) (at i k : ℕ) {answer added : ℕ} {is-done : Bool} → answer ≡ get_or answers at 0
    → is-done ≡ (eqb (kind (get_or list i 0)) k && eqb (answer_code answer) 0) → added ≡ from_bool is-done → added ≡ adds_at list answers at i k
adds-one list answers at i k read is number =
    number ∙ ap from_bool is ∙ as-cond _ ∙ ap (λ (a : ℕ). one (get_or list i 0) a k) read
  where
    as-cond : (b : Bool) → from_bool b ≡ cond b 1 0
    as-cond true = refl
    as-cond false = refl

-- one call more: the count of the endpoint that it names, with it
module _ {is : Kind → Bool} {list answers counts : List ℕ} {at i : ℕ} (k : ℕ) (numbered : Numbered is k) (l : i < length list)
    (x : Counting is list answers counts at i) where
  -- what the remaining calls count at f: what the first of them does, and what those after it do
  left_at : (f : ℕ) → count_done is f (split (drop i list)) (drop at answers)
      ≡ cond (eqb (named_at list i) f) (adds_at list answers at i k) 0 + count_done is f (split (drop (i + width_of (second_at list i)) list)) (drop (at + 3) answers)
  unfolding count_done
  left_at f =
      let w = get_or list i 0 in
      let s = second_at list i in
      let rest = split (drop (i + width_of s) list) in
      let here : get_or (drop at answers) 0 0 ≡ get_or answers at 0 = rw (get_or-drop at answers 0 0) (ap (λ (j : ℕ). get_or answers j 0) (omega arith)) in
      ap (λ (cs : List Call). count_done is f cs (drop at answers)) (split_at list i l).front
      ∙ ap₂ ◌+◌ (adds-at is k f (call_of w s) w (get_or answers at 0) (drop at answers) numbered (first_of w s) here)
      (ap (count_done is f rest) (drop-drop 3 at answers))

  -- the count with the call fits the list
  pub counted-few : named_at list i < 32 → get_or counts (named_at list i) 0 + adds_at list answers at i k ≤ length list
  counted-few small =
      let e = named_at list i in
      let here = rw (eq-eqb e e refl) at (left_at e) in
      omega (arith, here, x.sum e small, done-few is e (split list) answers, split-few list)

  pub counting-next : {added : ℕ} → added ≡ adds_at list answers at i k
      → Counting is list answers (set counts (named_at list i) (get_or counts (named_at list i) 0 + added)) (at + 3) (i + width_of (second_at list i))
  counting-next {added} with_it = record { sum = sum; size = length-set counts e v ∙ x.size }
    where
      e : ℕ
      e = named_at list i

      v : ℕ
      v = get_or counts e 0 + added

      sum : (f : ℕ) → f < 32 → get_or (set counts e v) f 0 + count_done is f (split (drop (i + width_of (second_at list i)) list)) (drop (at + 3) answers) ≡ count_done is f (split list) answers
      sum f l =
          ⊎_elim
          (λ same.
          let here = rw (eq-eqb e f same) at (left_at f) in
          let now : get_or (set counts e v) f 0 ≡ v = rw (← same) (get_or-set_same counts e v 0 (omega (arith, x.size))) in
          omega (arith, here, now, with_it, x.sum f l, ap (λ (j : ℕ). get_or counts j 0) same))
          (λ other.
          let here = rw (ne_eqb e f other) at (left_at f) in
          omega (arith, here, get_or-set_other counts e f v 0 (λ p. other (sym p)), x.sum f l))
          (equal-either e f)

  -- a call that names an endpoint which no table has
  pub counting-other : 32 ≤ named_at list i → Counting is list answers counts (at + 3) (i + width_of (second_at list i))
  counting-other above =
      record {
        sum =
            λ f l.
            let here = rw (ne_eqb (named_at list i) f (λ same. absurd (omega arith))) at (left_at f) in
            omega (arith, here, x.sum f l);
        size = x.size;
      }

-- no call is left
pub counting-end : {is : Kind → Bool} {list answers counts : List ℕ} {at i : ℕ} → Counting is list answers counts at i → length list ≤ i
    → counts ≡ words_below 32 (λ e. count_done is e (split list) answers)
unfolding count_done split
counting-end {is} {list} {answers} {counts} {at} {i} x past =
    ext_get_or 0 counts (words_below 32 (λ e. count_done is e (split list) answers)) (x.size ∙ sym (words-length 32 _))
    (λ e l.
    let few : e < 32 = omega (arith, x.size) in
    omega (arith, rw (drop_of_length-le list past) at (x.sum e few), words-at 32 (λ e. count_done is e (split list) answers) e 0 few))

-- a send is of kind 2, and a receive of kind 3
pub sends-are : Numbered is_send 2
unfolding is_send one_of kind_number kind_of
sends-are j =
    ⊎_elim (λ same. rw same)
    (λ other.
    kind-elim j (λ k. is_send k ≡ false) (λ _. refl) (λ same. absurd (other same)) (λ _. refl) (λ _. refl) (λ _. refl) (λ _. refl)
    (λ _. refl) (λ _. refl) (λ _. refl) refl
    ∙ sym (ne_eqb j 2 other))
    (equal-either j 2)

pub receives-are : Numbered is_receive 3
unfolding is_receive one_of kind_number kind_of
receives-are j =
    ⊎_elim (λ same. rw same)
    (λ other.
    kind-elim j (λ k. is_receive k ≡ false) (λ _. refl) (λ _. refl) (λ same. absurd (other same)) (λ _. refl) (λ _. refl) (λ _. refl)
    (λ _. refl) (λ _. refl) (λ _. refl) refl
    ∙ sym (ne_eqb j 3 other))
    (equal-either j 3)

-- a loop that fills a list from its front
pub fill-next : (xs : List ℕ) (f : ℕ → ℕ) (i : ℕ) {v : ℕ} → i < length xs → take i xs ≡ words_below i f → v ≡ f i → take (i + 1) (set xs i v) ≡ words_below (i + 1) f
unfolding words_below
fill-next xs f i {v} l front is =
    rw (add-one i) (take-suc-set xs i v l ∙ ap₂ (λ (ws : List ℕ) (w : ℕ). ws ++ (w ∷ [])) front is)
