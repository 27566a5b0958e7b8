-- What is claimed of the outcome of writing calls (specs/ListClaims). Assumes nothing.
use Prim.Native.Nat.{ℕ, ◌+◌, ◌≤◌}
use mathlib.Core.Path.{◌≡◌, refl, ap, subst, ◌∙◌}
use mathlib.Core.Bool.{Bool, true, false, cond, ◌&&◌}
use mathlib.Core.Logic.{◌⊎◌.inl, ◌⊎◌.inr}
use mathlib.Core.List.{List, [], ◌∷◌, ◌++◌}
use mathlib.Core.Option.{Option, none, some}
use native.Mathlib.Omega.{arith}
use borrow.Author.Tests.{le-ltb, ltb-false, eqb-false}
use lib.Dec.{ltb}
use lib.ListN.{length, take, drop, length-append, length-map}
use lib.Seq.{take_at, drop_at}
use Rattle.machine.specs.Call.{split}
use Rattle.machine.specs.Entry.{longest_list}
use Rattle.machine.proofs.Bools.{and_left, and_right, and_intro, or-none-left, or-none-right, cond-elim}
use Rattle.machine.proofs.Split.{split-few}
use Rattle.calls.specs.declared.Call.{Call}
use Rattle.writer_theory.specs.Words.{fits, encoded_words, all_fit, written}
use Rattle.writer_theory.specs.Claims.{decoded_calls, read_from}
use Rattle.writer_theory.proofs.FieldWords.{one-or-two}
use Rattle.writer_theory.proofs.Reading.{reads-back}
use Rattle.writer_theory.proofs.Writing.{writes-back}
use Rattle.writer_theory.specs.Write.{unfit_from, first_unfit, too_long, WriteOutcome, words_written, refusal, words_put, after_unfit, writing}
use Rattle.writer_theory.specs.ListClaims.{WrittenReadsBack, WrittenAsItCame, EachWantsAWord, FirstUnfit, WritingCode, EveryWritingCode, OthersLeft}

-- where no call is found unfit, all fit
pub none-unfit : (i : ℕ) (cs : List Call) → unfit_from i cs ≡ none → all_fit cs ≡ true
unfolding unfit_from all_fit
none-unfit i [] h = refl
none-unfit i (c ∷ cs) h = go (fits c) h (none-unfit (i + 1) cs)
  where
    go : (b : Bool) → cond b (unfit_from (i + 1) cs) (some i) ≡ none → (unfit_from (i + 1) cs ≡ none → all_fit cs ≡ true) → (b && all_fit cs) ≡ true
    go true e later = later e
    go false e later = let z : ◌≡◌ {A = ℕ} 0 1 = cc in absurd (omega arith)

-- where the code is 0 the words are at the start
in-front : (count : ℕ) (ws list : List ℕ) → (words_put count ws list).code ≡ 0 → take (words_put count ws list).number (words_put count ws list).list ≡ ws
unfolding words_put
in-front count ws list =
    cond-elim (λ (o : WriteOutcome). o.code ≡ 0 → take o.number o.list ≡ ws) (too_long count (length ws) (length list))
    (λ _ e. absurd (eqb-false 31 0 refl e))
    (λ _ _. take_at ws _ _ refl)

-- and no call was found unfit
written-whole : (o : Option ℕ) (count : ℕ) (ws list : List ℕ) → (after_unfit o count ws list).code ≡ 0
    → (o ≡ none) × (take (after_unfit o count ws list).number (after_unfit o count ws list).list ≡ ws)
written-whole none count ws list e = (refl, in-front count ws list e)
written-whole (some i) count ws list e = absurd (eqb-false 30 0 refl e)

-- and there are no more of them than a list may have
pub words-few : (cs : List Call) (count : ℕ) (list : List ℕ) → (writing cs count list).code ≡ 0 → (writing cs count list).number ≤ longest_list
unfolding writing words_put too_long
words-few cs count list = go (first_unfit cs)
  where
    put : (words_put count (written cs) list).code ≡ 0 → (words_put count (written cs) list).number ≤ longest_list
    put =
        cond-elim (λ (o : WriteOutcome). o.code ≡ 0 → o.number ≤ longest_list) (too_long count (length (written cs)) (length list))
        (λ _ e. absurd (eqb-false 31 0 refl e))
        (λ short _. ltb-false longest_list (length (written cs)) (or-none-right (ltb longest_list count) _ (or-none-left _ _ short)))

    go : (o : Option ℕ) → (after_unfit o count (written cs) list).code ≡ 0 → (after_unfit o count (written cs) list).number ≤ longest_list
    go none e = put e
    go (some i) e = absurd (eqb-false 30 0 refl e)

-- where the code is 0 all calls fit, and their words are the ones written
pub written_all : (cs : List Call) (count : ℕ) (list : List ℕ) → (writing cs count list).code ≡ 0
    → (all_fit cs ≡ true) × (words_written (writing cs count list) ≡ written cs)
unfolding first_unfit writing
written_all cs count list zero =
    let whole = written-whole (first_unfit cs) count (written cs) list zero in
    (none-unfit 0 cs whole.0, whole.1)

-- ---- what is refused

-- the first call that can't be written, where the first of the list has the index k
first-unfit : (k : ℕ) (cs : List Call) (i : ℕ) → unfit_from k cs ≡ some i → (j : ℕ) × (k + j ≡ i) × FirstUnfit cs j
unfolding unfit_from all_fit
first-unfit k [] i h = let z : ◌≡◌ {A = ℕ} 0 1 = cc in absurd (omega arith)
first-unfit k (c ∷ cs) i h = go (fits c) refl h (first-unfit (k + 1) cs i)
  where
    go : (b : Bool) → fits c ≡ b → cond b (unfit_from (k + 1) cs) (some k) ≡ some i
        → (unfit_from (k + 1) cs ≡ some i → (j : ℕ) × (k + 1 + j ≡ i) × FirstUnfit cs j)
        → (j : ℕ) × (k + j ≡ i) × FirstUnfit (c ∷ cs) j
    go true fit e rest =
        let (j, at, f) = rest e in (
          j + 1,
          omega (arith, at),
          record {
            before = c ∷ f.before;
            bad = f.bad;
            later = f.later;
            calls = ap (λ (ds : List Call). c ∷ ds) f.calls;
            index = omega (arith, f.index);
            fitting = and_intro fit f.fitting;
            unfit = f.unfit;
          },
        )
    go false not e rest =
        let at : k ≡ i = cc in
        (0, omega (arith, at), record { before = []; bad = c; later = cs; calls = refl; index = refl; fitting = refl; unfit = not })

-- what holds of both refusals and of words that are written holds of the writing
writing-elim : (cs : List Call) (count : ℕ) (list : List ℕ) (P : WriteOutcome → Type 0)
    → ((i : ℕ) → FirstUnfit cs i → P (refusal 30 i list))
    → (all_fit cs ≡ true → too_long count (length (written cs)) (length list) ≡ true → P (refusal 31 0 list))
    → (all_fit cs ≡ true → too_long count (length (written cs)) (length list) ≡ false → P (record { code = 0; number = length (written cs); list = written cs ++ drop (length (written cs)) list }))
    → P (writing cs count list)
unfolding writing first_unfit words_put
writing-elim cs count list P bad long done = go (unfit_from 0 cs) refl
  where
    go : (o : Option ℕ) → unfit_from 0 cs ≡ o → P (after_unfit o count (written cs) list)
    go none e = let fit = none-unfit 0 cs e in cond-elim P (too_long count (length (written cs)) (length list)) (long fit) (done fit)
    go (some i) e = let (j, at, f) = first-unfit 0 cs i e in let same : j ≡ i = omega (arith, at) in bad i (subst (FirstUnfit cs) same f)

pub every-writing-code : EveryWritingCode
every-writing-code cs count list =
    writing-elim cs count list (WritingCode cs count list)
    (λ i f. record { known = inl refl; bad_call = λ _. f; passes = λ e. absurd (omega (arith, e)); done = λ e. absurd (omega (arith, e)) })
    (λ fit long. record { known = inr (inl refl); bad_call = λ e. absurd (omega (arith, e)); passes = λ _. (fit, long, refl); done = λ e. absurd (omega (arith, e)) })
    (λ fit short. record { known = inr (inr refl); bad_call = λ e. absurd (omega (arith, e)); passes = λ e. absurd (omega (arith, e)); done = λ _. (fit, short, refl) })

pub others-left : OthersLeft
others-left cs count list =
    writing-elim cs count list
    (λ (o : WriteOutcome). ((o.code ≡ 0 → ⊥) → o.list ≡ list) × (o.code ≡ 0 → drop o.number o.list ≡ drop o.number list))
    (λ i _. (λ _. refl, λ e. absurd (omega (arith, e))))
    (λ _ _. (λ _. refl, λ e. absurd (omega (arith, e))))
    (λ _ _. (λ some. absurd (some refl), λ _. drop_at (written cs) (drop (length (written cs)) list) (length (written cs)) refl))

pub written-reads-back : WrittenReadsBack
written-reads-back cs count list zero =
    let (fit, words) = written_all cs count list zero in ap read_from words ∙ reads-back cs fit

-- where all fit, no call is found unfit
all-fit : (i : ℕ) (cs : List Call) → all_fit cs ≡ true → unfit_from i cs ≡ none
unfolding unfit_from all_fit
all-fit i [] h = refl
all-fit i (c ∷ cs) h = rw (and_left (fits c) (all_fit cs) h) (all-fit (i + 1) cs (and_right (fits c) (all_fit cs) h))

pub each-wants-a-word : EachWantsAWord
unfolding written
each-wants-a-word [] = omega arith
each-wants-a-word (c ∷ cs) =
    omega (arith, (one-or-two c).0, each-wants-a-word cs, length-append (encoded_words c) (written cs))

-- no more calls than words
few-calls : (ws : List ℕ) → length (read_from ws) ≤ length ws
unfolding read_from
few-calls ws = omega (arith, length-map (split ws) decoded_calls, split-few ws)

pub written-as-it-came : WrittenAsItCame
unfolding first_unfit writing words_put too_long
written-as-it-came ws list h short room =
    let back = writes-back ws h in
    let fit = all-fit 0 (read_from ws) back.0 in
    rw (
      fit,
      back.1,
      le-ltb longest_list (length (read_from ws)) (omega (arith, few-calls ws)),
      le-ltb longest_list (length ws) short,
      le-ltb (length list) (length ws) room,
    )
