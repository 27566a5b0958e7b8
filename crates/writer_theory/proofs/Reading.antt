-- Calls that can be written are read back from their words, so no two lists of calls are written in the same words
-- (specs/Claims). Assumes nothing.
use Prim.Native.Nat.{ℕ}
use mathlib.Core.Path.{◌≡◌, refl, sym, ap, ap₂, ◌∙◌}
use mathlib.Core.Bool.{Bool, true, false, cond, false≢true}
use mathlib.Core.List.{List, [], ◌∷◌, ◌++◌, map}
use Rattle.std.specs.Prelude.{Option, Some, None}
use Rattle.machine.specs.Word.{kind, word}
use Rattle.machine.specs.Call as machine
use Rattle.machine.specs.Call.{pairs, split, wants_second, kind_of, unused_fields, all_zero, has_second, second_payload}
use Rattle.machine.proofs.Bools.{and_left, and_right, and_intro}
use Rattle.machine.proofs.Split.{split-last, split_one, split-two}
use Rattle.calls.specs.Split.{call_of}
use Rattle.calls.specs.Decode.{needs_second, whole, of_kind, decoded}
use Rattle.calls.specs.declared.Call.{Call}
use Rattle.calls.specs.declared.Call.TheVariants.{LookUp, Send, Receive, MyEndpoints, MyRights, Grant, Remove, Revoke, Refused}
use Rattle.writer_theory.specs.declared.Fields.{Fields}
use Rattle.writer_theory.specs.Words.{fields_of, within_bits, first_word, field_words, fits, encoded_words, all_fit, written}
use Rattle.writer_theory.specs.Claims.{decoded_calls, read_from, past, all_past, ReadsBack, DifferentWords, TakenByReader}
use Rattle.writer_theory.proofs.FieldWords.{Holds, bounds, held, second-kind, second_holds}

-- the second word of a call with these fields
abbrev pub second_of : Fields → Option ℕ
second_of f = cond (wants_second f.kind) (Some (word 15 f.second)) None

-- the machine's call of a first word and, if there is one, a second is decoded from these words
pub taken_of : (w : ℕ) (s : Option ℕ) → decoded_calls (call_of w s) ≡ decoded w s
unfolding decoded_calls
taken_of w None = refl
taken_of w (Some v) = refl

-- a first word that holds the fields of a call that fits is decoded into the call
apart-back : (c : Call) (w : ℕ) → fits c ≡ true → Holds w (fields_of c) → decoded w (second_of (fields_of c)) ≡ c
unfolding fits within_bits fields_of decoded of_kind whole needs_second kind_of unused_fields all_zero wants_second has_second second_payload
apart-back (LookUp u x) w h r =
    simp (r.kind, r.caller, r.a, r.b, r.c, second_holds x (bounds (fields_of (LookUp u x)) h).second)
apart-back (Send u e m) w h r =
    simp (r.kind, r.caller, r.a, r.b, r.c, second_holds m (bounds (fields_of (Send u e m)) h).second)
apart-back (Receive u e) w h r = simp (r.kind, r.caller, r.a, r.b, r.c)
apart-back (MyEndpoints u) w h r = simp (r.kind, r.caller, r.a, r.b, r.c)
apart-back (MyRights u) w h r = simp (r.kind, r.caller, r.a, r.b, r.c)
apart-back (Grant u g k s) w h r = simp (r.kind, r.caller, r.a, r.b, r.c)
apart-back (Remove u g s) w h r = simp (r.kind, r.caller, r.a, r.b, r.c)
apart-back (Revoke u g k s) w h r = simp (r.kind, r.caller, r.a, r.b, r.c)
apart-back (Refused u s) w h r = absurd (false≢true h)

-- a word makes one call with a second word after it, where its kind wants one, and otherwise with none
both : (w v : ℕ) → wants_second (kind w) ≡ true → kind v ≡ 15 → pairs w v ≡ true
unfolding pairs
both w v a b = rw (a, b)

alone : (w v : ℕ) → wants_second (kind w) ≡ false → pairs w v ≡ false
unfolding pairs
alone w v a = rw a

-- the words of a call, split off the front of a list
split-front : (f : Fields) → within_bits f ≡ true → (rest : List ℕ) → split (field_words f ++ rest) ≡ call_of (first_word f) (second_of f) ∷ split rest
unfolding field_words
split-front f h rest = go (wants_second f.kind) (ap wants_second (held f h).kind) rest
  where
    go : (b : Bool) → wants_second (kind (first_word f)) ≡ b → (rest : List ℕ)
        → split ((first_word f ∷ cond b (word 15 f.second ∷ []) []) ++ rest) ≡ call_of (first_word f) (cond b (Some (word 15 f.second)) None) ∷ split rest
    go true e rest = split-two _ _ rest (both _ _ e (second-kind f.second (bounds f h).second))
    go false e [] = split-last _
    go false e (v ∷ rest) = split_one _ v rest (alone _ v e)

-- a call's words, as the machine has them
abbrev machine_call : Call → machine.Call
machine_call c = call_of (first_word (fields_of c)) (second_of (fields_of c))

split-words : (c : Call) → fits c ≡ true → (rest : List ℕ) → split (encoded_words c ++ rest) ≡ machine_call c ∷ split rest
unfolding fits encoded_words
split-words c h rest = split-front (fields_of c) h rest

back : (c : Call) → fits c ≡ true → decoded_calls (machine_call c) ≡ c
unfolding fits
back c h = taken_of _ (second_of (fields_of c)) ∙ apart-back c _ h (held (fields_of c) h)

pub reads-back : ReadsBack
unfolding read_from written all_fit split
reads-back [] h = refl
reads-back (c ∷ cs) h =
    let fit = and_left (fits c) (all_fit cs) h in
    ap (map decoded_calls) (split-words c fit (written cs))
    ∙ ap₂ (λ (x : Call) (xs : List Call). x ∷ xs) (back c fit) (reads-back cs (and_right (fits c) (all_fit cs) h))

pub different-words : DifferentWords
different-words cs ds c d e = sym (reads-back cs c) ∙ ap read_from e ∙ reads-back ds d

-- a call that can be written isn't a refused one
fits-past : (c : Call) → fits c ≡ true → past c ≡ true
unfolding fits within_bits fields_of past
fits-past (LookUp u x) h = refl
fits-past (Send u e m) h = refl
fits-past (Receive u e) h = refl
fits-past (MyEndpoints u) h = refl
fits-past (MyRights u) h = refl
fits-past (Grant u g k s) h = refl
fits-past (Remove u g s) h = refl
fits-past (Revoke u g k s) h = refl
fits-past (Refused u s) h = absurd (false≢true h)

all_past_lem : (cs : List Call) → all_fit cs ≡ true → all_past cs ≡ true
unfolding all_fit all_past
all_past_lem [] h = refl
all_past_lem (c ∷ cs) h =
    and_intro (fits-past c (and_left (fits c) (all_fit cs) h)) (all_past_lem cs (and_right (fits c) (all_fit cs) h))

pub taken-by-reader : TakenByReader
taken-by-reader cs h = ap all_past (reads-back cs h) ∙ all_past_lem cs h
