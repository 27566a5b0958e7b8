-- A step is a run of one call (specs/StepIsRun). Assumes nothing.
use Prim.Native.Nat.{ℕ, ◌≤◌}
use mathlib.Core.Path.{◌≡◌, refl, sym, ap, ◌∙◌}
use mathlib.Core.Bool.{Bool, true, false}
use mathlib.Core.List.{List, [], ◌∷◌, ◌++◌}
use native.Mathlib.Omega.{arith}
use borrow.Author.Tests.{eqb-true, eqb-false, le-ltb}
use lib.Dec.{eqb}
use lib.ListN.{length, drop}
use Rattle.machine.specs.Call.{Call, split, words_of, Call.one, Call.two}
use Rattle.machine.specs.Machine.{step, answer, answer_to}
use Rattle.machine.specs.Run as machine
use Rattle.machine.specs.Entry.{longest_list, space_code, entry_code, refusal, ran, entry}
use Rattle.machine.specs.Holders.{holders_of}
use Rattle.machine.proofs.Promise.{entry-ran, entry-refused, entry-code}
use Rattle.machine.proofs.WordClaims.{split-keeps-words}
use Rattle.kernel.specs.Step.{step_code, step_words, step_entry_code}
use Rattle.kernel.specs.StepIsRun.{StepIsRun}

module _ (t ws space holders : List ℕ) (c : Call) (is : split ws ≡ c ∷ []) (three : 3 ≤ length space) where
  -- a call has at most two words
  short : length ws ≤ 2
  unfolding words_of
  short = rw (sym (split-keeps-words ws) ∙ ap words_of is) (few c)
    where
      few : (x : Call) → length (words_of (x ∷ [])) ≤ 2
      few (one w) = omega arith
      few (two w v) = omega arith

  same_code : entry_code t ws (length space) (length holders) ≡ step_entry_code t (length holders)
  unfolding entry_code space_code step_entry_code
  same_code =
      let list = le-ltb longest_list (length ws) (omega (arith, short)) in
      let space = le-ltb (length space) 3 three in
      rw (list, is, space)

  done : step_entry_code t (length holders) ≡ 0 → entry t ws space holders ≡ ran t ws space
  done e = entry-ran t ws space holders (same_code ∙ e)

  left : (step_entry_code t (length holders) ≡ 0 → ⊥) → entry t ws space holders ≡ refusal (entry_code t ws (length space) (length holders)) t space holders
  left n = entry-refused t ws space holders (λ e. n (sym same_code ∙ e))

  -- what a run of the call leaves
  ran-table : (ran t ws space).table ≡ step t c
  unfolding ran machine.run
  ran-table = rw is

  ran-holders : (ran t ws space).holders ≡ holders_of (step t c)
  unfolding ran machine.run
  ran-holders = rw is

  ran-answers : (ran t ws space).answers ≡ answer t c ++ drop 3 space
  unfolding ran machine.answers answer answer_to
  ran-answers = rw is

pub step-is-run : StepIsRun
unfolding refusal
step-is-run t ws space holders c r t' h' code calls answers end kept is three p q =
    let rest = go (eqb n 0) refl in
    (coded, rest.0, rest.1, rest.2)
  where
    n : ℕ
    n = step_entry_code t (length holders)

    coded : step_code r ≡ code
    coded = p.code ∙ sym (same_code t ws space holders c is three) ∙ sym (entry-code t ws space holders) ∙ sym q.same_code

    go : (b : Bool) → eqb n 0 ≡ b → (t' ≡ end) × (h' ≡ kept) × (code ≡ 0 → step_words r ++ drop 3 space ≡ answers)
    go true e =
        let here = done t ws space holders c is three (eqb-true n 0 e) in
        let table : t' ≡ step t c = rw e at p.table in
        let holding : h' ≡ holders_of (step t c) = rw e at p.same_holders in
        let words : step_words r ≡ answer t c = rw e at p.words in
        let table' : end ≡ step t c = q.same_table ∙ ap (λ o. o.table) here ∙ ran-table t ws space holders c is three in
        let holding' : kept ≡ holders_of (step t c) = q.same_holders ∙ ap (λ o. o.holders) here ∙ ran-holders t ws space holders c is three in
        let words' : answers ≡ answer t c ++ drop 3 space = q.same_answers ∙ ap (λ o. o.answers) here ∙ ran-answers t ws space holders c is three in
        (table ∙ sym table', holding ∙ sym holding', λ _. ap (λ (x : List ℕ). x ++ drop 3 space) words ∙ sym words')
    go false e =
        let here = left t ws space holders c is three (eqb-false n 0 e) in
        let table : t' ≡ t = rw e at p.table in
        let holding : h' ≡ holders = rw e at p.same_holders in
        let table' : end ≡ t = q.same_table ∙ ap (λ o. o.table) here in
        let holding' : kept ≡ holders = q.same_holders ∙ ap (λ o. o.holders) here in
        (table ∙ sym table', holding ∙ sym holding', λ z. absurd (eqb-false n 0 e (sym p.code ∙ coded ∙ z)))
