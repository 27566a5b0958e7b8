-- A list that is read as calls past the four places is written as it came (specs/Claims).
-- Assumes nothing.
use Prim.Native.Nat.{ℕ, ◌+◌, ◌*◌, ◌<◌}
use mathlib.Core.Path.{◌≡◌, refl, sym, ap, ap₂, ◌∙◌}
use mathlib.Core.Bool.{Bool, true, false, cond, not, ◌&&◌, false≢true, true≢false}
use mathlib.Core.List.{List, [], ◌∷◌, ◌++◌}
use native.Mathlib.Nat.{div-add-mod'}
use native.Mathlib.Omega.{arith}
use borrow.Author.Tests.{lt-ltb, ne_eqb, eqb-true, eqb-false}
use lib.Arith.{mod-mul}
use lib.Dec.{eqb, lit<}
use Rattle.std.specs.Prelude.{Option, Some, None}
use Rattle.machine.specs.Word.{kind, payload, caller, field_a, field_b, field_c, word}
use Rattle.machine.specs.Call.{Kind, pairs, split, wants_second, unused_fields, all_zero, has_second, second_payload}
use Rattle.machine.specs.Call.{Kind.look_up, Kind.send, Kind.receive, Kind.my_endpoints, Kind.my_rights, Kind.grant, Kind.remove, Kind.revoke}
use Rattle.machine.proofs.Bools.{and_left, and_right, and_intro}
use Rattle.machine.proofs.Split.{split-last, split_one, split-two}
use Rattle.machine.proofs.KindCases.{kind-elim}
use Rattle.calls.specs.Split.{call_of}
use Rattle.calls.specs.Decode.{needs_second, whole, of_kind, decoded}
use Rattle.calls.specs.declared.Call.{Call}
use Rattle.calls.specs.declared.Call.TheVariants.{Refused}
use Rattle.calls.specs.declared.Refusal.TheVariants.{UnusedField, NoSecondWord}
use Rattle.writer_theory.specs.declared.Fields.{Fields}
use Rattle.writer_theory.specs.Words.{fields_at, fields_of, within_bits, first_word, field_words, fits, encoded_words, all_fit, written}
use Rattle.writer_theory.specs.Claims.{read_from, past, all_past, of_the_four, WritesBack}
use Rattle.writer_theory.proofs.Reading.{taken_of}

-- the fields that a first word and, if there is one, a second hold
abbrev fields_in : ℕ → Option ℕ → Fields
fields_in w s = fields_at (kind w) (caller w) (field_a w) (field_b w) (field_c w) (second_payload (call_of w s))

-- the words of a call
abbrev words_in : ℕ → Option ℕ → List ℕ
words_in w None = w ∷ []
words_in w (Some v) = w ∷ v ∷ []

-- the second word, if there is one, makes one call with the first, as in a split list
abbrev FromSplit : ℕ → Option ℕ → Type 0
FromSplit w None = Unit {0}
FromSplit w (Some v) = pairs w v ≡ true

-- the fields of a word are within their bits
second_below : (w : ℕ) (s : Option ℕ) → second_payload (call_of w s) < 268435456
unfolding second_payload
second_below w None = omega arith
second_below w (Some v) = omega arith

within : (w : ℕ) (s : Option ℕ) → (kind w ≡ 0 → ⊥) → within_bits (fields_in w s) ≡ true
unfolding within_bits
within w s some =
    rw (
      ne_eqb (kind w) 0 some,
      lt-ltb (caller w) 64 (omega arith),
      lt-ltb (field_a w) 64 (omega arith),
      lt-ltb (field_b w) 256 (omega arith),
      lt-ltb (field_c w) 256 (omega arith),
      lt-ltb (second_payload (call_of w s)) 268435456 (second_below w s),
    )

-- a word is its fields put together again
again : (w : ℕ) → word (kind w) (caller w * 4194304 + field_a w * 65536 + field_b w * 256 + field_c w) ≡ w
again w =
    digits (caller w) (field_a w) (field_b w) (field_c w)
    (mod-mul w {m = 64} {c = 4194304} (lit< tt) (lit< tt))
    (mod-mul w {m = 64} {c = 65536} (lit< tt) (lit< tt))
    (mod-mul w {m = 256} {c = 256} (lit< tt) (lit< tt))
    ∙ div-add-mod' w 268435456
  where
    digits : {p q r : ℕ} (u a b c : ℕ) → p ≡ u * 4194304 + q → q ≡ a * 65536 + r → r ≡ b * 256 + c
        → word (kind w) (u * 4194304 + a * 65536 + b * 256 + c) ≡ kind w * 268435456 + p
    digits u a b c e f g = omega arith

same-words : (w : ℕ) (s : Option ℕ) → FromSplit w s → has_second (call_of w s) ≡ wants_second (kind w) → field_words (fields_in w s) ≡ words_in w s
unfolding field_words first_word has_second second_payload pairs
same-words w None split h = rw (again w, sym h)
same-words w (Some v) split h =
    let k : kind v ≡ 15 = eqb-true _ _ (and_right (wants_second (kind w)) (eqb (kind v) 15) split) in
    let v-again : word 15 (payload v) ≡ v = omega arith in
    rw (again w, sym h, v-again)

-- what a call is written in is what it was read from
pub record Back (w : ℕ) (s : Option ℕ) (c : Call) : Type 0 where
  pub fit : fits c ≡ true
  pub words : encoded_words c ≡ words_in w s

-- fields that are all zero, one by one
two-zero : (x y : ℕ) → all_zero (x ∷ y ∷ []) ≡ true → (x ≡ 0) × (y ≡ 0)
unfolding all_zero
two-zero x y h =
    (eqb-true x 0 (and_left (eqb x 0) (eqb y 0 && true) h), eqb-true y 0 (and_left (eqb y 0) true (and_right (eqb x 0) (eqb y 0 && true) h)))

one-zero : (x : ℕ) → all_zero (x ∷ []) ≡ true → x ≡ 0
unfolding all_zero
one-zero x h = eqb-true x 0 (and_left (eqb x 0) true h)

three-zero : (x y z : ℕ) → all_zero (x ∷ y ∷ z ∷ []) ≡ true → (x ≡ 0) × (y ≡ 0) × (z ≡ 0)
unfolding all_zero
three-zero x y z h =
    let rest = two-zero y z (and_right (eqb x 0) (all_zero (y ∷ z ∷ [])) h) in
    (eqb-true x 0 (and_left (eqb x 0) (all_zero (y ∷ z ∷ [])) h), rest.0, rest.1)

-- without a second word, what it holds is 0
no_payload : (w : ℕ) (s : Option ℕ) → has_second (call_of w s) ≡ false → second_payload (call_of w s) ≡ 0
unfolding has_second second_payload
no_payload w None h = refl
no_payload w (Some v) h = absurd (true≢false h)

-- a split list has a second word only where it is wanted
split-wants : (w : ℕ) (s : Option ℕ) → FromSplit w s → has_second (call_of w s) ≡ true → wants_second (kind w) ≡ true
unfolding has_second pairs
split-wants w None from h = absurd (false≢true h)
split-wants w (Some v) from h = and_left (wants_second (kind w)) (eqb (kind v) 15) from

module _ (w : ℕ) (s : Option ℕ) (from : FromSplit w s) where
  -- where a second word is wanted there is one, and where none is wanted there is none
  as_wanted : (wants_second (kind w) && not (has_second (call_of w s))) ≡ false → has_second (call_of w s) ≡ wants_second (kind w)
  as_wanted h = go (wants_second (kind w)) (has_second (call_of w s)) h (split-wants w s from)
    where
      go : (wants has : Bool) → (wants && not has) ≡ false → (has ≡ true → wants ≡ true) → has ≡ wants
      go true true h f = refl
      go true false h f = absurd (true≢false h)
      go false true h f = sym (f refl)
      go false false h f = refl

  -- a call that holds the fields of its words
  held_back : (c : Call) → (kind w ≡ 0 → ⊥) → has_second (call_of w s) ≡ wants_second (kind w) → fields_of c ≡ fields_in w s → Back w s c
  unfolding fits encoded_words
  held_back c some h e =
      record { fit = ap within_bits e ∙ within w s some; words = ap field_words e ∙ same-words w s from h }

  -- a call past the places 13 and 14, which holds the fields of its words
  module _ (n : ℕ) (is : kind w ≡ n) (k : Kind) (next : Call) where
    past-both : eqb n 0 ≡ false
        → needs_second k ≡ wants_second n
        → (all_zero (unused_fields k w) ≡ true → has_second (call_of w s) ≡ wants_second n → fields_of next ≡ fields_in w s)
        → past (whole w s k next) ≡ true
        → Back w s (whole w s k next)
    unfolding whole past of_the_four
    past-both some wants same =
        rw (wants, sym is)
        (go (all_zero (unused_fields k w)) refl (wants_second (kind w) && not (has_second (call_of w s))) refl)
      where
        go : (b : Bool) → all_zero (unused_fields k w) ≡ b → (l : Bool) → (wants_second (kind w) && not (has_second (call_of w s))) ≡ l
            → past (cond (not b) (Refused (caller w) UnusedField) (cond l (Refused (caller w) NoSecondWord) next)) ≡ true
            → Back w s (cond (not b) (Refused (caller w) UnusedField) (cond l (Refused (caller w) NoSecondWord) next))
        go false z l e p = absurd (false≢true p)
        go true z true e p = absurd (false≢true p)
        go true z false e p =
            let h = as_wanted e in
            held_back next (λ zero. eqb-false n 0 some (sym is ∙ zero)) h (same z (h ∙ ap wants_second is))

  -- each kind: its unused fields are zero, and where it wants no second word there is none
  by_kind : past (decoded w s) ≡ true → Back w s (decoded w s)
  unfolding decoded of_kind fields_of unused_fields wants_second needs_second past of_the_four
  by_kind =
      kind-elim (kind w) (λ k. past (of_kind w s k) ≡ true → Back w s (of_kind w s k))
      (λ e. past-both 1 e look_up _ refl refl (λ z h. let (a, b, c) = three-zero _ _ _ z in simp (e, a, b, c)))
      (λ e. past-both 2 e send _ refl refl (λ z h. let (a, c) = two-zero _ _ z in simp (e, a, c)))
      (λ e. past-both 3 e receive _ refl refl (λ z h. let (a, c) = two-zero _ _ z in simp (e, a, c, no_payload w s h)))
      (λ e. past-both 4 e my_endpoints _ refl refl (λ z h. let (a, b, c) = three-zero _ _ _ z in simp (e, a, b, c, no_payload w s h)))
      (λ e. past-both 5 e my_rights _ refl refl (λ z h. let (a, b, c) = three-zero _ _ _ z in simp (e, a, b, c, no_payload w s h)))
      (λ e. past-both 6 e grant _ refl refl (λ z h. simp (e, no_payload w s h)))
      (λ e. past-both 7 e remove _ refl refl (λ z h. let b = one-zero _ z in simp (e, b, no_payload w s h)))
      (λ e. past-both 8 e revoke _ refl refl (λ z h. simp (e, no_payload w s h)))
      (λ _ p. absurd (false≢true p))
      (λ p. absurd (false≢true p))

-- what is claimed of a list
abbrev AsItCame : List ℕ → Type 0
AsItCame ws = all_past (read_from ws) ≡ true → (all_fit (read_from ws) ≡ true) × (written (read_from ws) ≡ ws)

-- one call in front of a list
in-front : (w : ℕ) (s : Option ℕ) (ws rest : List ℕ) → FromSplit w s → split ws ≡ call_of w s ∷ split rest → words_in w s ++ rest ≡ ws → AsItCame rest → AsItCame ws
unfolding read_from all_past all_fit written
in-front w s ws rest from e whole later h =
    let one = rw (e, taken_of w s) at h in
    let here = by_kind w s from (and_left (past (decoded w s)) (all_past (read_from rest)) one) in
    let behind = later (and_right (past (decoded w s)) (all_past (read_from rest)) one) in
    rw (e, taken_of w s)
    (and_intro here.fit behind.0, ap₂ (λ (x y : List ℕ). x ++ y) here.words behind.1 ∙ whole)

pub writes-back : WritesBack
unfolding read_from written all_fit split
writes-back [] h = (refl, refl)
writes-back (w ∷ []) h = in-front w None (w ∷ []) [] tt (split-last w) refl (writes-back []) h
writes-back (w ∷ (v ∷ ws)) h = go (pairs w v) refl (writes-back ws) (writes-back (v ∷ ws)) h
  where
    go : (b : Bool) → pairs w v ≡ b → AsItCame ws → AsItCame (v ∷ ws) → AsItCame (w ∷ (v ∷ ws))
    go true e later next = in-front w (Some v) (w ∷ (v ∷ ws)) ws e (split-two w v ws e) refl later
    go false e later next = in-front w None (w ∷ (v ∷ ws)) (v ∷ ws) tt (split_one w v ws e) refl next
