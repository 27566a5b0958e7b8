-- `answer_call` meets its contract: a space under three words is refused before the step, and what `kernel::step` promises is
-- returned as a code and the words of the three slices. Assumes nothing.
use Prim.Native.Nat.{ℕ, ◌≤◌}
use mathlib.Core.Path.{sym, ap, ◌∙◌}
use mathlib.Core.Bool.{Bool, cond}
use mathlib.Core.List.{List, [], ◌++◌}
use borrow.Author.Tests.{ne_eqb, eq-eqb}
use lib.ListN.{length, drop}
use Rattle.machine.specs.Call.{Call}
use Rattle.machine.specs.Machine as machine
use Rattle.run_result.specs.Entry.{entry_refusal_code}
use Rattle.run_result.specs.declared.EntryRefusal.{EntryRefusal}
use Rattle.answers.specs.Answer.{answer_words}
use Rattle.answers.proofs.Space.{put_whole}
use Rattle.kernel.specs.Step.{step_entry_code, StepPromise}
use Rattle.answers.specs.declared.Answer.{Answer}
use Rattle.std.specs.Prelude.{Ok, Err}
use Rattle.run_result.proofs.Refusals.{entry-refusal-code}
use Rattle.single_call.specs.Single.{SingleCall}
use Rattle.single_call.proofs.Codes.{too_small, room}
use Rattle.single_call.proofs.answer_call.Goals as goal

-- what the step promises of a call that is refused and of one that is answered, as it is returned to C
refused : (t space holders : List ℕ) (c : Call) (r : EntryRefusal) (t' kept : List ℕ) → 3 ≤ length space
    → StepPromise t c holders (Err r) t' kept → SingleCall t c space holders (entry_refusal_code r) t' space kept
refused t space holders c r t' kept h p =
    let e = room t space holders h in
    let bad = ne_eqb (step_entry_code t (length holders)) 0 (λ none. entry-refusal-code r (p.code ∙ none)) in
    record { same_code = p.code ∙ sym e; table = rw e p.table; answer = rw (e, bad); same_holders = rw e p.same_holders }

answered : (t space holders : List ℕ) (c : Call) (a : Answer) (t' kept : List ℕ) → 3 ≤ length space
    → StepPromise t c holders (Ok a) t' kept → SingleCall t c space holders 0 t' (answer_words a ++ drop 3 space) kept
answered t space holders c a t' kept h p =
    let e = room t space holders h in
    let fine = eq-eqb (step_entry_code t (length holders)) 0 (sym p.code) in
    let words = p.words ∙ ap (λ (b : Bool). cond b (machine.answer t c) []) fine in
    record {
      same_code = p.code ∙ sym e;
      table = rw e p.table;
      answer = rw (e, fine) (ap (λ (ws : List ℕ). ws ++ drop 3 space) words);
      same_holders = rw e p.same_holders;
    }

pub returns-then-answer-lt3 : goal.returns-then-answer-lt3
returns-then-answer-lt3 c =
    let a = c.args in
    let e = too_small a.table.now a.answer.now a.holders.now c.if-answer-lt3.true in
    record { same_code = sym e; table = rw e; answer = rw e; same_holders = rw e }

pub returns-in-Err : goal.returns-in-Err
returns-in-Err c =
    let a = c.args in
    rw c.code.ensures (refused a.table.now a.answer.now a.holders.now _ _ _ _ c.if-answer-lt3.false c.in-Err.ensures)

pub returns-in-Ok : goal.returns-in-Ok
returns-in-Ok c =
    let a = c.args in
    rw (c.put.ensures ∙ put_whole _ _ c.if-answer-lt3.false)
    (answered a.table.now a.answer.now a.holders.now _ _ _ _ c.if-answer-lt3.false c.in-Ok.ensures)
