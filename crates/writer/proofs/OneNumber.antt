-- A result of the code in one number says the same outcome of writing rows (writer_theory: specs/Result), and the index of a bad
-- call is small enough for it. Assumes nothing.
use Prim.Native.Nat.{ℕ, ◌+◌, ◌*◌, ◌<◌}
use mathlib.Core.Path.{◌≡◌, refl, sym, ap, ◌∙◌}
use mathlib.Core.Bool.{Bool, true, false, cond}
use mathlib.Core.List.{List, [], ◌∷◌}
use mathlib.Core.Option.{Option, none, some}
use native.Mathlib.Omega.{arith}
use borrow.Author.Tests.{eqb-false}
use lib.ListN.{length}
use Rattle.std.specs.Prelude.{Result, Ok, Err}
use Rattle.machine.proofs.Bools.{cond-elim}
use Rattle.calls.specs.declared.Call.{Call}
use Rattle.writer_theory.specs.Words.{fits, written}
use Rattle.writer_theory.specs.Write.{WriteOutcome, unfit_from, first_unfit, too_long, words_put, after_unfit, writing}
use Rattle.writer_theory.specs.Rows.{rows_handed_in, writing_rows}
use Rattle.writer_theory.specs.Result.{result_code, result_number, outcome_of}
use Rattle.writer_theory.proofs.ListClaims.{words-few}
use Rattle.writer_theory.proofs.Result.{written-result, long-result, bad-result}
use Rattle.writer.specs.declared.WriteRefusal.{WriteRefusal}
use Rattle.writer.specs.declared.WriteRefusal.TheVariants.{BadCall, TooLong}
use Rattle.writer.proofs.RowAt.{rows-count}
use Rattle.writer.specs.Answer.{answered}

-- a result in one number
abbrev pub in_one_number : Result ℕ WriteRefusal → ℕ
in_one_number (Ok words) = words
in_one_number (Err (BadCall i)) = 4098 + i
in_one_number (Err TooLong) = 4097

-- a number that says the code and the number of an outcome
says : (r : ℕ) (o : WriteOutcome) → (result_code r ≡ o.code) × (result_number r ≡ o.number) → outcome_of r o.list ≡ o
says r o (p, q) = rw (p, q)

module _ (rows list : List ℕ) where
  says-this : (r : Result ℕ WriteRefusal) (end : List ℕ) → answered r end ≡ writing_rows rows list → outcome_of (in_one_number r) end ≡ writing_rows rows list
  says-this (Ok words) end e =
      let cs = rows_handed_in rows in
      let few = words-few cs (length cs) list (sym (ap (λ (o : WriteOutcome). o.code) e)) in
      says words _ (written-result words (omega (arith, few, ap (λ (o : WriteOutcome). o.number) e))) ∙ e
  says-this (Err (BadCall i)) end e = says (4098 + i) _ (bad-result i) ∙ e
  says-this (Err TooLong) end e = says 4097 _ long-result ∙ e

  -- what the code answers, found to be a result
  pub says-outcome : (found r : Result ℕ WriteRefusal) (end : List ℕ) → found ≡ r → answered found end ≡ writing_rows rows list
      → outcome_of (in_one_number r) end ≡ writing_rows rows list
  says-outcome found r end is e = says-this r end (ap (λ (x : Result ℕ WriteRefusal). answered x end) (sym is) ∙ e)

-- the index of a bad call is below the count of calls
unfit-below : (i : ℕ) (cs : List Call) (j : ℕ) → unfit_from i cs ≡ some j → j < i + length cs
unfolding unfit_from
unfit-below i [] j h = let z : ◌≡◌ {A = ℕ} 0 1 = cc in absurd (omega arith)
unfit-below i (c ∷ cs) j h = go (fits c) h (unfit-below (i + 1) cs j)
  where
    go : (b : Bool) → cond b (unfit_from (i + 1) cs) (some i) ≡ some j → (unfit_from (i + 1) cs ≡ some j → j < i + 1 + length cs)
        → j < i + length (c ∷ cs)
    go true e later = omega (arith, later e)
    go false e later = let same : i ≡ j = cc in omega arith

-- a call that is answered as bad
bad-below : (cs : List Call) (count : ℕ) (list : List ℕ) (i : ℕ) (end : List ℕ) → answered (Err (BadCall i)) end ≡ writing cs count list
    → i < length cs
unfolding writing words_put first_unfit
bad-below cs count list i end e = go (unfit_from 0 cs) refl e
  where
    go : (o : Option ℕ) → unfit_from 0 cs ≡ o → answered (Err (BadCall i)) end ≡ after_unfit o count (written cs) list → i < length cs
    go none first =
        cond-elim (λ (o : WriteOutcome). answered (Err (BadCall i)) end ≡ o → i < length cs) (too_long count (length (written cs)) (length list))
        (λ _ e. absurd (eqb-false 30 31 refl (ap (λ (o : WriteOutcome). o.code) e)))
        (λ _ e. absurd (eqb-false 30 0 refl (ap (λ (o : WriteOutcome). o.code) e)))
    go (some j) first = λ e. omega (arith, unfit-below 0 cs j first, ap (λ (o : WriteOutcome). o.number) e)

pub bad-small : (rows list : List ℕ) (found : Result ℕ WriteRefusal) (i : ℕ) (end : List ℕ) → found ≡ Err (BadCall i)
    → answered found end ≡ writing_rows rows list → 5 * i < length rows
bad-small rows list found i end is e =
    let cs = rows_handed_in rows in
    omega (arith, bad-below cs (length cs) list i end (ap (λ (x : Result ℕ WriteRefusal). answered x end) (sym is) ∙ e), (rows-count rows).0)
