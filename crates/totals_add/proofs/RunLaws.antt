-- What a list that ran shows of its counts: they balance at each endpoint, so that what was lost is computed from what was sent,
-- received and waits; and they are the list's totals. Assumes nothing.
use Rattle.std.proofs.Common.{◌≡◌, ℕ, ◌+◌, ◌-◌, ◌*◌, ◌<◌, ◌≤◌, Bool, List, [], ◌++◌, length, drop, sym, refl, ap, ◌∙◌, append-nil, arith, ne_eqb}
use Rattle.machine.specs.Below.{words_below}
use Rattle.machine.specs.Table.{endpoints, endpoint}
use Rattle.machine.specs.Queue.{waiting}
use Rattle.machine.specs.Check.{Accepted}
use Rattle.machine.specs.Call.{Call, Kind, split}
use Rattle.machine.specs.Run as machine
use Rattle.machine.specs.Counts.{is_send, is_receive, count_done, sent_to, received_from}
use Rattle.machine.specs.Entry.{Outcome, longest_list, Runs, ran}
use Rattle.machine.specs.Promise.{RunPromise}
use Rattle.machine.proofs.Accepted.{accepted-counts}
use Rattle.machine.proofs.Step.{run-accepted}
use Rattle.machine.proofs.Counts.{counts-conserved, count-append}
use Rattle.machine.proofs.Promise.{runs-accepted, runs-short, entry-ran, entry-code}
use Rattle.totals_theory.specs.Totals.{list_totals}
use Rattle.totals_theory.proofs.TotalsLaws.{list-few}
use Rattle.totals_add.specs.declared.Tally.{Tally}
use Rattle.totals_add.specs.Added.{added_below, added_if_run, ListAdded}
use Rattle.totals_add.specs.Counts.{came_in, accounted_for, Countable, CountsAdded}
use Rattle.totals_add.proofs.SumLaws.{word_at, added-same}

-- A list that ran: its table was accepted and it was short enough, and its answers and its table are the machine's.
pub record RunOf (t ws answers end : List ℕ) : Type 0 where
  pub accepted : Accepted t
  pub short : length ws ≤ longest_list
  pub rest : List ℕ
  pub answered : answers ≡ machine.answers t (split ws) ++ rest
  pub table : end ≡ machine.run t (split ws)

-- whatever promised a run, and didn't refuse the list, ran it
pub run_of : {t ws space holders : List ℕ} {code calls : ℕ} {answers end kept : List ℕ} → RunPromise t ws space holders code calls answers end kept → code ≡ 0 → RunOf t ws answers end
unfolding ran
run_of {t} {ws} {space} {holders} p z =
    let runs : Runs t ws (length space) (length holders) = sym (entry-code t ws space holders) ∙ sym p.same_code ∙ z in
    let is = entry-ran t ws space holders runs in
    record {
      accepted = runs-accepted t ws (length space) (length holders) runs;
      short = runs-short t ws (length space) (length holders) runs;
      rest = drop (3 * length (split ws)) space;
      answered = p.same_answers ∙ ap (λ (o : Outcome). o.answers) is;
      table = p.same_table ∙ ap (λ (o : Outcome). o.table) is;
    }

module _ {t ws answers end : List ℕ} (r : RunOf t ws answers end) where
  -- the same endpoints, at most 32, are there at the end
  pub same-endpoints : endpoints end ≡ endpoints t
  same-endpoints = ap endpoints r.table ∙ (run-accepted t (split ws) r.accepted).frame.same_endpoints

  pub few-endpoints : endpoints t ≤ 32
  few-endpoints = (accepted-counts t r.accepted).2

  -- words after the answers count nothing
  done-is : (is : Kind → Bool) (e : ℕ) → count_done is e (split ws) answers ≡ count_done is e (split ws) (machine.answers t (split ws))
  unfolding count_done
  done-is is e =
      ap (count_done is e (split ws)) r.answered
      ∙ ap (λ (cs : List Call). count_done is e cs (machine.answers t (split ws) ++ r.rest)) (sym (append-nil (split ws)))
      ∙ count-append is e t (split ws) [] r.rest
      ∙ omega arith

  pub sent_is : (e : ℕ) → sent_to e (split ws) answers ≡ (list_totals e t ws).sent
  unfolding list_totals
  sent_is e = done-is is_send e

  pub received_is : (e : ℕ) → received_from e (split ws) answers ≡ (list_totals e t ws).received
  unfolding list_totals
  received_is e = done-is is_receive e

  -- what was sent, and waited before, is what was received, lost and waits after
  balance : (e : ℕ) → e < endpoints t → (list_totals e t ws).sent + waiting (endpoint t e) ≡ (list_totals e t ws).received + (list_totals e t ws).lost + waiting (endpoint end e)
  unfolding list_totals
  balance e l =
      let counts = counts-conserved t (split ws) [] r.accepted e l in
      rw r.table (rw append-nil at counts.balance)

-- What waited before it and what it counts, by the words that it left.
module _ {t ws answers end before : List ℕ} (r : RunOf t ws answers end) (before-is : before ≡ words_below 32 (λ e. waiting (endpoint t e))) where
  made_up : (e : ℕ) → e < endpoints end → came_in e ws answers before ≡ accounted_for e end ws answers + (list_totals e t ws).lost
  made_up e l =
      let below : e < endpoints t = omega (arith, same-endpoints r) in
      omega (arith, sent_is r e, received_is r e, balance r e below, word_at 32 (λ e. waiting (endpoint t e)) e (omega (arith, few-endpoints r)) before-is)

  pub countable : Countable end ws answers before
  unfolding waiting
  countable =
      record {
        few = omega (arith, same-endpoints r, few-endpoints r);
        enough = λ e l. omega (arith, made_up e l);
        fits =
            λ e l.
            omega (
              arith,
              sent_is r e,
              (list-few e t ws).sent,
              r.short,
              word_at 32 (λ e. waiting (endpoint t e)) e (omega (arith, same-endpoints r, few-endpoints r)) before-is,
            );
      }

  pub lost-is : (e : ℕ) → e < endpoints end → came_in e ws answers before - accounted_for e end ws answers ≡ (list_totals e t ws).lost
  lost-is e l = omega (arith, made_up e l)

  -- so words to which these counts are added have the list's totals
  added-ran : (xs : List ℕ) {xs' : List ℕ} (f g : ℕ → ℕ) → ((e : ℕ) → e < endpoints end → f e ≡ g e)
      → xs' ≡ added_below (endpoints end) xs f → xs' ≡ added_if_run 0 t xs g
  unfolding added_if_run
  added-ran xs f g same sum =
      sum ∙ added-same xs (endpoints end) f g same ∙ ap (λ (m : ℕ). added_below m xs g) (same-endpoints r)

-- a run whose counts are added to a tally
pub list-added : {t ws space holders answers end kept before : List ℕ} {calls : ℕ} {tally tally' : Tally}
    → RunPromise t ws space holders 0 calls answers end kept
    → before ≡ words_below 32 (λ e. waiting (endpoint t e))
    → CountsAdded end ws answers before tally tally'
    → ListAdded t ws space holders (record { code = 0; calls = calls; table = end; answers = answers; holders = kept }) tally tally'
list-added p before-is added =
    let r = run_of p refl in
    record {
      run = p;
      sent_added = added-ran r before-is _ _ _ (λ e _. sent_is r e) added.sent_added;
      received_added = added-ran r before-is _ _ _ (λ e _. received_is r e) added.received_added;
      lost_added = added-ran r before-is _ _ _ (lost-is r before-is) added.lost_added;
    }

-- a refused list adds nothing
added-refused : (code : ℕ) (t xs : List ℕ) (f : ℕ → ℕ) → (code ≡ 0 → ⊥) → xs ≡ added_if_run code t xs f
unfolding added_if_run
added-refused code t xs f n = rw (ne_eqb code 0 n)

pub nothing-added : {t ws space holders answers end kept : List ℕ} {code calls : ℕ} {tally : Tally}
    → RunPromise t ws space holders code calls answers end kept
    → (code ≡ 0 → ⊥)
    → ListAdded t ws space holders (record { code = code; calls = calls; table = end; answers = answers; holders = kept }) tally tally
nothing-added {t} p refused =
    record {
      run = p;
      sent_added = added-refused _ t _ _ refused;
      received_added = added-refused _ t _ _ refused;
      lost_added = added-refused _ t _ _ refused;
    }
