-- `run_call` meets its contract: words that are as many as their first call has are that call alone, and what `answer_call`
-- promises of it where there is space is what is promised here. Assumes nothing.
use mathlib.Core.Path.{refl, sym, ap, subst, ◌∙◌}
use native.Mathlib.Omega.{arith}
use lib.ListN.{get_or}
use Rattle.calls.specs.Split.{call_of, width_of}
use Prim.Native.Nat.{ℕ}
use Rattle.std.specs.Prelude.{Option}
use Rattle.single_call.specs.Single.{SingleCall}
use Rattle.single_call.proofs.Codes.{not-one, no-space, some_words, of_words}
use Rattle.single_call.proofs.run_call.Goals as goal

pub returns-then-words-wide : goal.returns-then-words-wide
returns-then-words-wide c =
    let a = c.args in
    let e = not-one a.table.now a.holders.now a.words.now a.answer.now (λ same. c.if-words-wide.true (same ∙ sym (c.width-wide.ensures ∙ ap width_of c.second_at-second.ensures))) in
    record { same_code = sym e; one_call = λ z. absurd (omega (arith, z)); table = refl; same_holders = refl; answer = refl }

pub returns-then-answer-lt3 : goal.returns-then-answer-lt3
returns-then-answer-lt3 c =
    let a = c.args in
    let one = c.if-words-wide.false ∙ c.width-wide.ensures ∙ ap width_of c.second_at-second.ensures in
    let e = no-space a.table.now a.holders.now a.words.now a.answer.now one c.if-answer-lt3.true in
    record { same_code = sym e; one_call = λ z. absurd (omega (arith, z)); table = refl; same_holders = refl; answer = refl }

pub bounds-words-0 : goal.bounds-words-0
bounds-words-0 c =
    let one = c.if-words-wide.false ∙ c.width-wide.ensures ∙ ap width_of c.second_at-second.ensures in
    omega (arith, some_words c.args.words.now one)

pub returns : goal.returns
returns c =
    let a = c.args in
    let called = c.answer_call in
    let one = c.if-words-wide.false ∙ c.width-wide.ensures ∙ ap width_of c.second_at-second.ensures in
    of_words a.table.now a.holders.now a.words.now a.answer.now _ _ _ _ one c.if-answer-lt3.false
    (subst
    (λ (s : Option ℕ). SingleCall a.table.now (call_of (get_or a.words.now 0 0) s) a.answer.now a.holders.now called.result called.new.table called.new.answer called.new.holders)
    c.second_at-second.ensures
    called.ensures)
