-- Every function that leaves what the entry leaves keeps the whole promise (specs/Promise): what is claimed of every run
-- holds of the words that it left. Assumes nothing.
use mathlib.Core.Path.{◌≡◌, refl, sym, ap, subst, ◌∙◌}
use mathlib.Core.List.{List, ◌++◌}
use Prim.Native.Nat.{ℕ, ◌*◌, ◌<◌, ◌≤◌, zero-le}
use native.Mathlib.Nat.{le_trans}
use native.Mathlib.Omega.{arith}
use borrow.Author.Tests.{eqb-true, eq-eqb, ne_eqb, lt-ltb, le-ltb, ltb-false}
use lib.Dec.{eqb, ltb}
use lib.ListN.{length, drop}
use Rattle.machine.specs.Table.{domains, endpoints}
use Rattle.machine.specs.Check.{table_code, Accepted}
use Rattle.machine.specs.Call.{split}
use Rattle.machine.specs.Run as machine
use Rattle.machine.specs.Entry.{Outcome, longest_list, holders_code, space_code, entry_code, Runs, refusal, ran, entry}
use Rattle.machine.specs.Holders.{holders_of}
use Rattle.machine.specs.RunClaims.{RefusalChangesNothing, Noninterference, RightsProvenance, CountsConserved, FifoOrder}
use Rattle.machine.specs.Promise.{RunPromise, Keeps, EveryEntryKeeps}
use Rattle.machine.proofs.Bools.{cond-elim}
use Rattle.machine.proofs.Split.{split-few}
use Rattle.machine.proofs.Counts.{counts-conserved, fifo-order}
use Rattle.machine.proofs.Trail.{rights-provenance}
use Rattle.machine.proofs.Noninterference.{noninterference}
use Rattle.machine.proofs.Refused.{refusal-changes-nothing}
use Rattle.machine.proofs.CallClaims.{entry-code-most}

-- a list that runs has an accepted table
pub runs-accepted : (t ws : List ℕ) (size lent : ℕ) → Runs t ws size lent → Accepted t
unfolding entry_code
runs-accepted t ws size lent r =
    cond-elim (λ (x : ℕ). x ≡ 0 → table_code t ≡ 0) (ltb longest_list (length ws)) (λ _ h. absurd (omega arith))
    (λ _.
    cond-elim (λ (x : ℕ). x ≡ 0 → table_code t ≡ 0) (eqb (table_code t) 0) (λ e _. eqb-true _ _ e) (λ _ h. h))
    r

-- what the entry leaves, by its code
pub entry-ran : (t ws space holders : List ℕ) → Runs t ws (length space) (length holders) → entry t ws space holders ≡ ran t ws space
unfolding entry
entry-ran t ws space holders e = rw e

pub entry-refused : (t ws space holders : List ℕ) → (Runs t ws (length space) (length holders) → ⊥)
    → entry t ws space holders ≡ refusal (entry_code t ws (length space) (length holders)) t space holders
unfolding entry
entry-refused t ws space holders n =
    let code = entry_code t ws (length space) (length holders) in
    cond-elim (λ (o : Outcome). o ≡ refusal code t space holders) (eqb code 0) (λ e. absurd (n (eqb-true _ _ e))) (λ _. refl)

pub entry-code : (t ws space holders : List ℕ) → (entry t ws space holders).code ≡ entry_code t ws (length space) (length holders)
unfolding entry ran refusal
entry-code t ws space holders =
    let code = entry_code t ws (length space) (length holders) in
    cond-elim (λ (o : Outcome). o.code ≡ code) (eqb code 0) (λ e. sym (eqb-true _ _ e)) (λ _. refl)

-- a list that runs left what is claimed of every run
module _ (t ws space : List ℕ) (lent : ℕ) (r : Runs t ws (length space) lent) where
  ran-refusals : RefusalChangesNothing t (split ws) (ran t ws space).answers (ran t ws space).table
  unfolding ran
  ran-refusals = refusal-changes-nothing t (split ws) (drop (3 * length (split ws)) space)

  ran-noninterference : Noninterference t (split ws) (ran t ws space).answers (ran t ws space).table
  unfolding ran
  ran-noninterference = noninterference t (split ws) (drop (3 * length (split ws)) space) (runs-accepted t ws _ lent r)

  ran-rights : RightsProvenance t (split ws) (ran t ws space).table
  unfolding ran
  ran-rights = rights-provenance t (split ws) (runs-accepted t ws _ lent r)

  ran-counts : (e : ℕ) → e < endpoints t → CountsConserved e t (split ws) (ran t ws space).answers (ran t ws space).table
  unfolding ran
  ran-counts = counts-conserved t (split ws) (drop (3 * length (split ws)) space) (runs-accepted t ws _ lent r)

  ran-in-order : (e : ℕ) → e < endpoints t → FifoOrder e t (split ws) (ran t ws space).answers (ran t ws space).table
  unfolding ran
  ran-in-order = fifo-order t (split ws) (drop (3 * length (split ws)) space) (runs-accepted t ws _ lent r)

-- What the entry leaves keeps the promise.
pub promise-kept : EveryEntryKeeps
promise-kept t ws space holders =
    record {
      same_code = refl;
      same_calls = refl;
      same_answers = refl;
      same_table = refl;
      same_holders = refl;
      refusals = λ z. from z (λ o. RefusalChangesNothing t (split ws) o.answers o.table) (ran-refusals t ws space _);
      noninterference = λ z. from z (λ o. Noninterference t (split ws) o.answers o.table) (ran-noninterference t ws space _);
      rights_provenance = λ z. from z (λ o. RightsProvenance t (split ws) o.table) (ran-rights t ws space _);
      counts = λ z. from z (λ o. (e : ℕ) → e < endpoints t → CountsConserved e t (split ws) o.answers o.table) (ran-counts t ws space _);
      fifo_order = λ z. from z (λ o. (e : ℕ) → e < endpoints t → FifoOrder e t (split ws) o.answers o.table) (ran-in-order t ws space _);
    }
  where
    from : (entry t ws space holders).code ≡ 0
        → (P : Outcome → Type 0)
        → (Runs t ws (length space) (length holders) → P (ran t ws space))
        → P (entry t ws space holders)
    from z P f =
        let r : Runs t ws (length space) (length holders) = sym (entry-code t ws space holders) ∙ z in
        subst P (sym (entry-ran t ws space holders r)) (f r)

-- So does every function that leaves the same.
pub promise-of : (t ws space holders : List ℕ) (o : Outcome) → o ≡ entry t ws space holders → Keeps t ws space holders o
promise-of t ws space holders o e = rw e (promise-kept t ws space holders)

-- ---- the entry place by place
module _ (t ws : List ℕ) (size lent : ℕ) where
  pub code-long : longest_list < length ws → entry_code t ws size lent ≡ 1
  unfolding entry_code
  code-long h = rw (lt-ltb longest_list (length ws) h)

  module _ (short : length ws ≤ longest_list) where
    pub code-table : (table_code t ≡ 0 → ⊥) → entry_code t ws size lent ≡ table_code t
    unfolding entry_code
    code-table n = rw (le-ltb longest_list (length ws) short, ne_eqb (table_code t) 0 n)

    module _ (a : Accepted t) where
      accepted-so-far : entry_code t ws size lent ≡ space_code t ws size lent
      unfolding entry_code
      accepted-so-far = rw (le-ltb longest_list (length ws) short, eq-eqb (table_code t) 0 a)

      pub code-space : size < 3 * length (split ws) → entry_code t ws size lent ≡ 6
      unfolding space_code
      code-space h = accepted-so-far ∙ rw (lt-ltb size (3 * length (split ws)) h)

      -- with space for the answers the holders decide
      pub code-holders : 3 * length (split ws) ≤ size → entry_code t ws size lent ≡ holders_code t lent
      unfolding space_code
      code-holders h = accepted-so-far ∙ rw (le-ltb size (3 * length (split ws)) h)

-- one word a domain, or another count of them
pub holders-fit : (t : List ℕ) (lent : ℕ) → lent ≡ domains t → holders_code t lent ≡ 0
unfolding holders_code
holders-fit t lent e = rw (eq-eqb lent (domains t) e)

pub holders-unfit : (t : List ℕ) (lent : ℕ) → (lent ≡ domains t → ⊥) → holders_code t lent ≡ 6
unfolding holders_code
holders-unfit t lent n = rw (ne_eqb lent (domains t) n)

-- A function that refuses by the entry's code and changes nothing keeps the promise.
pub promise-refused : (t ws space holders : List ℕ) (code : ℕ) → code ≡ entry_code t ws (length space) (length holders) → (code ≡ 0 → ⊥)
    → RunPromise t ws space holders code 0 space t holders
unfolding refusal
promise-refused t ws space holders code e n =
    promise-of t ws space holders (refusal code t space holders)
    (ap (λ (x : ℕ). refusal x t space holders) e ∙ sym (entry-refused t ws space holders (λ z. n (e ∙ z))))

-- So does one that runs a list that the entry doesn't refuse.
pub promise-ran : (t ws space holders : List ℕ) (calls : ℕ) (answers end kept : List ℕ)
    → Runs t ws (length space) (length holders)
    → calls ≡ length (split ws)
    → answers ≡ machine.answers t (split ws) ++ drop (3 * length (split ws)) space
    → end ≡ machine.run t (split ws)
    → kept ≡ holders_of (machine.run t (split ws))
    → RunPromise t ws space holders 0 calls answers end kept
unfolding ran
promise-ran t ws space holders calls answers end kept r p q s h =
    rw (p, q, s, h) (promise-of t ws space holders (ran t ws space) (sym (entry-ran t ws space holders r)))

-- ---- a run has no more calls than the longest list has words, and its code is one of the entry's
pub runs-short : (t ws : List ℕ) (size lent : ℕ) → Runs t ws size lent → length ws ≤ longest_list
unfolding entry_code
runs-short t ws size lent r =
    cond-elim (λ (x : ℕ). x ≡ 0 → length ws ≤ longest_list) (ltb longest_list (length ws)) (λ _ h. absurd (omega arith))
    (λ e _. ltb-false longest_list (length ws) e)
    r

pub calls-few : (t ws space holders : List ℕ) → (entry t ws space holders).calls ≤ longest_list
unfolding entry ran refusal
calls-few t ws space holders =
    cond-elim (λ (o : Outcome). o.calls ≤ longest_list) (eqb (entry_code t ws (length space) (length holders)) 0)
    (λ e. le_trans (split-few ws) (runs-short t ws (length space) (length holders) (eqb-true _ _ e)))
    (λ _. zero-le)

pub code-small : (t ws space holders : List ℕ) → (entry t ws space holders).code ≤ 6
code-small t ws space holders =
    subst (λ (x : ℕ). x ≤ 6) (sym (entry-code t ws space holders)) (entry-code-most t ws (length space) (length holders))
