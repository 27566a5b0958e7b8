-- `balkwizu_test_both_ways` meets its contract: both runs keep the promise of a run, from the same words, so they give the same.
-- Assumes nothing.
use Prim.Native.Nat.{ℕ}
use mathlib.Core.Path.{◌≡◌, sym}
use mathlib.Core.List.{List}
use borrow.Author.Tests.{eq-eqb}
use Rattle.machine.specs.Promise.{RunPromise}
use Rattle.std.specs.Prelude.{Result}
use Rattle.run_result.specs.declared.EntryRefusal.{EntryRefusal}
use Rattle.run_result.specs.Entry.{ran_code, ran_calls}
use Rattle.working_theory.proofs.TwoRuns.{both-give-the-same}
use Rattle.test_export.specs.BothWays.{same_end, SameBothWays}
use Rattle.test_export.proofs.both_ways.balkwizu_test_both_ways.Goals as goal

-- of two runs that keep the promise
both : (t t₂ ws space space₂ holders holders₂ : List ℕ) (a b : Result ℕ EntryRefusal) (answers answers' end end' kept kept' : List ℕ)
    → RunPromise t ws space holders (ran_code a) (ran_calls a) answers end kept
    → RunPromise t₂ ws space₂ holders₂ (ran_code b) (ran_calls b) answers' end' kept'
    → t₂ ≡ t
    → space₂ ≡ space
    → holders₂ ≡ holders
    → SameBothWays (same_end a b) end end' answers answers' kept kept'
both t t₂ ws space space₂ holders holders₂ a b answers answers' end end' kept kept' p q table answer holder =
    let same = both-give-the-same t ws space holders _ _ _ _ _ _ _ _ _ _ p (rw (table, answer, holder) at q) in
    record {
      ended = rw (eq-eqb _ _ same.same_code, eq-eqb _ _ same.same_calls);
      same_table = sym same.same_table;
      same_answers = sym same.same_answers;
      same_holders = sym same.same_holders;
    }

pub returns : goal.returns
returns c =
    λ table answers holders.
    rw c.same_end.ensures
    (both _ _ _ _ _ _ _ _ _ _ _ _ _ _ _ c.run-in_place.ensures c.run_working-working.ensures table answers holders)
