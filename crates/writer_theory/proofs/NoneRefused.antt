-- A call that is written is refused by none of 10, 11, 13 and 14, on any table (specs/ListClaims). Assumes nothing.
use Prim.Native.Nat.{ℕ, zero, suc, ◌*◌, ◌<◌}
use mathlib.Core.Path.{◌≡◌, refl, sym, ap, ◌∙◌}
use mathlib.Core.Bool.{Bool, true, false, not, false≢true}
use mathlib.Core.Logic.{◌⊎◌, ◌⊎◌.inl, ◌⊎◌.inr}
use mathlib.Core.List.{List, [], ◌∷◌, ◌++◌, map}
use mathlib.Core.Option.{Option, none, some}
use native.Mathlib.Omega.{arith}
use lib.Dec.{ltb}
use lib.ListN.{length, get_or, length-map}
use Rattle.std.specs.Prelude as std
use Rattle.machine.specs.Word.{answer_code}
use Rattle.machine.specs.Table.{domains}
use Rattle.machine.specs.Call as machine
use Rattle.machine.specs.Call.{split}
use Rattle.machine.specs.Machine.{Decision, named, decide, step, code, answer_word, answer_to, answer}
use Rattle.machine.specs.Guards.{look_up_places, send_places, receive_places, rights_places, grant_places, revoke_places, remove_places}
use Rattle.machine.specs.Run.{answers}
use Rattle.machine.specs.Entry.{Outcome, Runs, ran}
use Rattle.machine.proofs.Bools.{and_left, and_right, cond-elim}
use Rattle.machine.proofs.Decide.{place-elim}
use Rattle.machine.proofs.Promise.{entry-code, entry-ran}
use Rattle.calls.specs.Decode.{decoded}
use Rattle.calls.specs.Number.{number_of}
use Rattle.calls.specs.Decide.{known_caller, refused_call, decide_call}
use Rattle.calls.specs.declared.Refusal.{Refusal}
use Rattle.calls.specs.declared.Call.{Call}
use Rattle.calls.specs.declared.Call.TheVariants.{LookUp, Send, Receive, MyEndpoints, MyRights, Grant, Remove, Revoke, Refused}
use Rattle.calls.proofs.Decided.{decided}
use Rattle.writer_theory.specs.Words.{fields_of, within_bits, fits, all_fit}
use Rattle.writer_theory.specs.Claims.{decoded_calls, read_from, of_the_four, past}
use Rattle.writer_theory.specs.Write.{words_written, writing}
use Rattle.writer_theory.specs.ListClaims.{FourOfTheMachine, NoTableRefuses, NoRunRefuses}
use Rattle.writer_theory.proofs.Reading.{reads-back}
use Rattle.writer_theory.proofs.ListClaims.{written_all}

-- a decision by none of the four, whose code is small
record None (d : Decision) : Type 0 where
  pub other : of_the_four (code d) ≡ false
  pub small : code d < 65536

-- a call that isn't a refused one
unfoldable taken : Call → Bool
taken (Refused u r) = false
taken (LookUp u x) = true
taken (Send u e m) = true
taken (Receive u e) = true
taken (MyEndpoints u) = true
taken (MyRights u) = true
taken (Grant u g h r) = true
taken (Remove u g r) = true
taken (Revoke u g h r) = true

-- as each that can be written is
fits-taken : (c : Call) → fits c ≡ true → taken c ≡ true
unfolding taken fits within_bits fields_of
fits-taken (Refused u r) h = absurd (false≢true h)
fits-taken (LookUp u x) h = refl
fits-taken (Send u e m) h = refl
fits-taken (Receive u e) h = refl
fits-taken (MyEndpoints u) h = refl
fits-taken (MyRights u) h = refl
fits-taken (Grant u g k r) h = refl
fits-taken (Remove u g r) h = refl
fits-taken (Revoke u g k r) h = refl

module _ (t : List ℕ) where
  looked-up : (o : Option ℕ) → None (look_up_places o)
  unfolding look_up_places code of_the_four
  looked-up none = record { other = refl; small = omega arith }
  looked-up (some e) = record { other = refl; small = omega arith }

  known : (u : ℕ) {next : Decision} → None next → None (known_caller t u next)
  unfolding known_caller code of_the_four
  known u rest = place-elim None _ 12 (record { other = refl; small = omega arith }) (λ _. rest)

  rights : (u g h r : ℕ) (may : _) {row : Decision} → None row → None (rights_places t u g h r may row)
  unfolding rights_places code of_the_four
  rights u g h r may row =
      place-elim None _ 20 (record { other = refl; small = omega arith })
      (λ _. place-elim None _ 21 (record { other = refl; small = omega arith })
      (λ _. place-elim None _ 22 (record { other = refl; small = omega arith })
      (λ _. place-elim None _ 23 (record { other = refl; small = omega arith }) (λ _. row))))

  -- the places of each kind
  by_kind : (c : Call) → taken c ≡ true → None (decide_call t c)
  unfolding decide_call send_places receive_places grant_places revoke_places remove_places code of_the_four taken
  by_kind (LookUp u x) h = known u (looked-up (named t x))
  by_kind (Send u e m) h =
      known u
      (place-elim None _ 16 (record { other = refl; small = omega arith })
      (λ _. place-elim None _ 17 (record { other = refl; small = omega arith })
      (λ _. record { other = refl; small = omega arith })))
  by_kind (Receive u e) h =
      known u
      (place-elim None _ 16 (record { other = refl; small = omega arith })
      (λ _. place-elim None _ 18 (record { other = refl; small = omega arith })
      (λ _. place-elim None _ 19 (record { other = refl; small = omega arith })
      (λ _. record { other = refl; small = omega arith }))))
  by_kind (MyEndpoints u) h = known u (record { other = refl; small = omega arith })
  by_kind (MyRights u) h = known u (record { other = refl; small = omega arith })
  by_kind (Grant u g k r) h = known u (rights u g k r _ (record { other = refl; small = omega arith }))
  by_kind (Remove u g r) h =
      known u
      (place-elim None _ 20 (record { other = refl; small = omega arith })
      (λ _. place-elim None _ 21 (record { other = refl; small = omega arith })
      (λ _. place-elim None _ 22 (record { other = refl; small = omega arith })
      (λ _. record { other = refl; small = omega arith }))))
  by_kind (Revoke u g k r) h = known u (rights u g k r _ (record { other = refl; small = omega arith }))
  by_kind (Refused u r) h = absurd (false≢true h)

  -- a call that is decoded into one that fits
  by-words : (c : machine.Call) → fits (decoded_calls c) ≡ true → None (decide t c)
  unfolding decoded_calls
  by-words (machine.one w) h = rw (decided t w std.None) (by_kind (decoded w std.None) (fits-taken (decoded w std.None) h))
  by-words (machine.two w v) h = rw (decided t w (std.Some v)) (by_kind (decoded w (std.Some v)) (fits-taken (decoded w (std.Some v)) h))

  -- a call that the reader takes past the four, and one that it doesn't
  abbrev Four : Call → Type 0
  Four c =
      (past c ≡ true → of_the_four (code (decide_call t c)) ≡ false)
      × (past c ≡ false → (of_the_four (code (decide_call t c)) ≡ true) ⊎ (code (decide_call t c) ≡ 12))

  taken-four : (c : Call) → past c ≡ true → taken c ≡ true → Four c
  taken-four c is h = (λ _. (by_kind c h).other, λ not. absurd (false≢true (sym not ∙ is)))

  refused-four : (u : ℕ) (r : Refusal) → Four (Refused u r)
  unfolding past decide_call refused_call known_caller code of_the_four
  refused-four u r = go (of_the_four (number_of r)) refl
    where
      go : (b : Bool) → of_the_four (number_of r) ≡ b
          → (not b ≡ true → of_the_four (code (refused_call t u r)) ≡ false)
          × (not b ≡ false → (of_the_four (code (refused_call t u r)) ≡ true) ⊎ (code (refused_call t u r) ≡ 12))
      go true is =
          let P : Decision → Type 0 = λ d. (of_the_four (code d) ≡ true) ⊎ (code d ≡ 12) in
          (λ e. absurd (false≢true e), λ _. cond-elim P (ltb (number_of r) 12) (λ _. inl is) (λ _. place-elim P (not (ltb u (domains t))) 12 (inr refl) (λ _. inl is)))
      go false is =
          let P : Decision → Type 0 = λ d. of_the_four (code d) ≡ false in
          (λ _. cond-elim P (ltb (number_of r) 12) (λ _. is) (λ _. place-elim P (not (ltb u (domains t))) 12 refl (λ _. is)), λ e. absurd (false≢true (sym e)))

  four : (c : Call) → Four c
  unfolding past taken
  four (Refused u r) = refused-four u r
  four (LookUp u x) = taken-four (LookUp u x) refl refl
  four (Send u e m) = taken-four (Send u e m) refl refl
  four (Receive u e) = taken-four (Receive u e) refl refl
  four (MyEndpoints u) = taken-four (MyEndpoints u) refl refl
  four (MyRights u) = taken-four (MyRights u) refl refl
  four (Grant u g k r) = taken-four (Grant u g k r) refl refl
  four (Remove u g r) = taken-four (Remove u g r) refl refl
  four (Revoke u g k r) = taken-four (Revoke u g k r) refl refl

pub four-of-the-machine : FourOfTheMachine
unfolding decoded_calls
four-of-the-machine t (machine.one w) = rw (decided t w std.None) (four t (decoded w std.None))
four-of-the-machine t (machine.two w v) = rw (decided t w (std.Some v)) (four t (decoded w (std.Some v)))

-- each of some calls, wherever it is
each_fits : (before : List machine.Call) (c : machine.Call) (later : List machine.Call)
    → all_fit (map decoded_calls (before ++ (c ∷ later))) ≡ true → fits (decoded_calls c) ≡ true
unfolding all_fit
each_fits [] c later h = and_left (fits (decoded_calls c)) (all_fit (map decoded_calls later)) h
each_fits (b ∷ before) c later h =
    each_fits before c later (and_right (fits (decoded_calls b)) (all_fit (map decoded_calls (before ++ (c ∷ later)))) h)

-- an answer's code can be read back
answer-code : (c : machine.Call) (n : ℕ) → n < 65536 → answer_code (answer_word c n) ≡ n
unfolding answer_word
answer-code c n h = omega arith

-- the answer to each call, and what follows
each-answer : (t : List ℕ) (cs : List machine.Call) (rest : List ℕ) → all_fit (map decoded_calls cs) ≡ true
    → (k : ℕ) → k < length cs → of_the_four (answer_code (get_or (answers t cs ++ rest) (3 * k) 0)) ≡ false
unfolding all_fit answers answer answer_to
each-answer t [] rest h k l = absurd (omega arith)
each-answer t (c ∷ cs) rest h zero l =
    let d = by-words t c (and_left (fits (decoded_calls c)) (all_fit (map decoded_calls cs)) h) in
    ap of_the_four (answer-code c (code (decide t c)) d.small) ∙ d.other
each-answer t (c ∷ cs) rest h (suc k) l =
    let three : 3 * suc k ≡ suc (suc (suc (3 * k))) = omega arith in
    rw three (each-answer (step t c) cs rest (and_right (fits (decoded_calls c)) (all_fit (map decoded_calls cs)) h) k (omega arith))

module _ (cs : List Call) (count : ℕ) (list : List ℕ) (whole : (writing cs count list).code ≡ 0) where
  words : List ℕ
  words = words_written (writing cs count list)

  -- the calls that are read from the words are those that were passed
  read : map decoded_calls (split words) ≡ cs
  unfolding read_from words
  read = let (fit, same) = written_all cs count list whole in ap read_from same ∙ reads-back cs fit

  all-fit : all_fit (map decoded_calls (split words)) ≡ true
  all-fit = ap all_fit read ∙ (written_all cs count list whole).0

  as_many : length (split words) ≡ length cs
  as_many = sym (length-map (split words) decoded_calls) ∙ ap length read

pub no-table-refuses : NoTableRefuses
unfolding words
no-table-refuses cs count list whole t before c later e =
    let all = ap (λ (x : List machine.Call). all_fit (map decoded_calls x)) (sym e) ∙ all-fit cs count list whole in
    (by-words t c (each_fits before c later all)).other

pub no-run-refuses : NoRunRefuses
unfolding words ran
no-run-refuses cs count list whole t space holders n calls said end kept p ran_to =
    let ws = words_written (writing cs count list) in
    let runs : Runs t ws (length space) (length holders) = sym (entry-code t ws space holders) ∙ sym p.same_code ∙ ran_to in
    let left = entry-ran t ws space holders runs in
    let many = as_many cs count list whole in (
      p.same_calls ∙ ap (λ (o : Outcome). o.calls) left ∙ many,
      λ k l. rw (p.same_answers ∙ ap (λ (o : Outcome). o.answers) left)
          (each-answer t (split ws) _ (all-fit cs count list whole) k (rw many l)),
    )
