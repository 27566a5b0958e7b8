-- The entry of a run and of a step, as the code goes through it. Assumes nothing.
use mathlib.Core.Path.{◌≡◌, refl, sym, ap, ◌∙◌}
use mathlib.Core.Bool.{Bool, true, false, cond, not}
use mathlib.Core.List.{List}
use Prim.Native.Nat.{ℕ, ◌*◌, ◌<◌, ◌≤◌}
use native.Mathlib.Decide.{dec_lt, ℕ_discrete}
use native.Mathlib.Omega.{arith}
use lib.Dec.{eqb, leb, ltb}
use lib.ListN.{length}
use Rattle.std.specs.Prelude.{Ok, Err}
use borrow.Author.Tests.{lt-ltb, le-ltb, leb-true, leb-false, eqb-true, eqb-false, eq-eqb, ne_eqb}
use Rattle.machine.specs.Check.{table_code, Accepted}
use Rattle.machine.specs.Table.{domains}
use Rattle.machine.specs.Call.{Call, split}
use Rattle.machine.specs.Entry.{longest_list, holders_code, entry_code}
use Rattle.machine.specs.Holders.{holders_of}
use Rattle.machine.specs.Promise.{RunPromise}
use Rattle.machine.proofs.Promise.{runs-accepted, runs-short, code-space, code-holders, holders-unfit, promise-refused, promise-ran}
use Rattle.run_result.specs.Entry.{entry_refusal_code}
use Rattle.run_result.specs.declared.EntryRefusal.{EntryRefusal}
use Rattle.run_result.proofs.Refusals.{entry-refusal-code}
use Rattle.answers.specs.Answer.{answer_words}
use Rattle.answers.specs.declared.Answer.{Answer}
use Rattle.kernel.specs.Step.{StepOutcome, step_entry_code, StepPromise}
use Rattle.kernel.specs.Reports.{HoldersPromise}
use Rattle.kernel.specs.Run.{AllRun}

-- the test of the code and that of the definition
pub at_most : (a b : ℕ) → leb a b ≡ not (ltb b a)
at_most a b = go (leb a b) refl
  where
    go : (x : Bool) → leb a b ≡ x → x ≡ not (ltb b a)
    go true e = sym (ap not (le-ltb b a (leb-true a b e)))
    go false e = sym (ap not (lt-ltb b a (leb-false a b e)))

-- ---- a step's code: the table's, and then that of the holders
module _ (t : List ℕ) (lent : ℕ) where
  pub step-table : (table_code t ≡ 0 → ⊥) → step_entry_code t lent ≡ table_code t
  unfolding step_entry_code
  step-table n = rw (ne_eqb (table_code t) 0 n)

  pub step-holders : Accepted t → step_entry_code t lent ≡ holders_code t lent
  unfolding step_entry_code
  step-holders a = rw (eq-eqb (table_code t) 0 a)

-- Code that refuses by that code and changes nothing keeps the step's promise,
pub step-refused : (t : List ℕ) (c : Call) (holders : List ℕ) (r : EntryRefusal)
    → entry_refusal_code r ≡ step_entry_code t (length holders)
    → StepPromise t c holders (Err r) t holders
step-refused t c holders r e =
    let bad = ne_eqb (step_entry_code t (length holders)) 0 (λ none. entry-refusal-code r (e ∙ none)) in
    record { code = e; words = rw bad; table = rw bad; same_holders = rw bad }

-- and so does code that serves the call where nothing refuses it.
pub step-served : (t : List ℕ) (c : Call) (holders : List ℕ) (a : Answer) (t' kept : List ℕ)
    → step_entry_code t (length holders) ≡ 0
    → StepOutcome t c (answer_words a) t' kept
    → StepPromise t c holders (Ok a) t' kept
step-served t c holders a t' kept e served =
    let fine = eq-eqb (step_entry_code t (length holders)) 0 e in
    record {
      code = sym e;
      words = rw fine served.answer;
      table = rw fine served.table;
      same_holders = rw fine served.holders;
    }

-- ---- a run that its entry doesn't refuse
module _ (t ws : List ℕ) (size lent : ℕ) (runs : 0 ≡ entry_code t ws size lent) where
  -- what the calls of a list need
  pub may-run : Accepted t × (length ws ≤ longest_list × (3 * length (split ws) ≤ size × (lent ≡ domains t)))
  may-run = (a, (short, (enough (dec_lt size (3 * length (split ws))), fit (ℕ_discrete lent (domains t)))))
    where
      a : Accepted t
      a = runs-accepted t ws size lent (sym runs)

      short : length ws ≤ longest_list
      short = runs-short t ws size lent (sym runs)

      enough : Dec (size < 3 * length (split ws)) → 3 * length (split ws) ≤ size
      enough (yes few) = absurd (omega (arith, runs, code-space t ws size lent short a few))
      enough (no n) = omega arith

      fit : Dec (lent ≡ domains t) → lent ≡ domains t
      fit (yes e) = e
      fit (no n) =
          absurd
          (omega (arith, runs, code-holders t ws size lent short a (enough (dec_lt size (3 * length (split ws)))) ∙ holders-unfit t lent n))

-- Code that stops where the entry refuses keeps the run's promise,
pub promise-entered : (t ws space holders : List ℕ) (r : EntryRefusal)
    → entry_refusal_code r ≡ entry_code t ws (length space) (length holders)
    → RunPromise t ws space holders (entry_refusal_code r) 0 space t holders
promise-entered t ws space holders r reported =
    promise-refused t ws space holders (entry_refusal_code r) reported (entry-refusal-code r)

-- and so does code that runs the calls where it doesn't.
pub promise-all-run : (t ws space holders : List ℕ)
    → 0 ≡ entry_code t ws (length space) (length holders)
    → (k : ℕ) (answers end kept : List ℕ)
    → AllRun t ws space k answers end kept
    → RunPromise t ws space holders 0 k answers end kept
promise-all-run t ws space holders runs k answers end kept all =
    promise-ran t ws space holders k answers end kept (sym runs) all.count all.answers all.table all.holders

-- ---- the holders of a table by itself

pub holders-refused : (t holders : List ℕ) (r : EntryRefusal) → entry_refusal_code r ≡ step_entry_code t (length holders) → HoldersPromise t holders (entry_refusal_code r) holders
holders-refused t holders r e =
    record { same_code = e; same_holders = rw (ne_eqb (step_entry_code t (length holders)) 0 (λ none. entry-refusal-code r (e ∙ none))) }

-- an entry that doesn't refuse: the table is accepted, and one word a domain is lent
pub step-entered : (t : List ℕ) (lent : ℕ) → step_entry_code t lent ≡ 0 → Accepted t × (lent ≡ domains t)
unfolding step_entry_code holders_code
step-entered t lent e = go (eqb (table_code t) 0) (eqb lent (domains t)) refl refl e
  where
    go : (a b : Bool) → eqb (table_code t) 0 ≡ a → eqb lent (domains t) ≡ b → cond a (cond b 0 6) (table_code t) ≡ 0 → Accepted t × (lent ≡ domains t)
    go true true f g h = (eqb-true _ _ f, eqb-true _ _ g)
    go true false f g h = absurd (omega arith)
    go false b f g h = absurd (eqb-false _ _ f h)

pub holders-shown : (t holders kept : List ℕ) → step_entry_code t (length holders) ≡ 0 → kept ≡ holders_of t → HoldersPromise t holders 0 kept
holders-shown t holders kept e is =
    record { same_code = sym e; same_holders = rw (eq-eqb (step_entry_code t (length holders)) 0 e) is }
