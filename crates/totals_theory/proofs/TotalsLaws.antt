-- The totals over lists: they are those of all the calls as one list, they balance, and they can be computed list by list
-- (specs/Claims: SheetHolds, OneRun, ListByList). None is above the count of words. Assumes nothing.
use Prim.Native.Nat.{ℕ, ◌+◌, ◌≤◌}
use mathlib.Core.Path.{◌≡◌, refl, sym, ap, ap₂, subst, ◌∙◌}
use mathlib.Core.Bool.{Bool, true, false, cond}
use mathlib.Core.List.{List, [], ◌∷◌, ◌++◌, append-nil}
use native.Mathlib.Nat.{le_trans}
use native.Mathlib.Omega.{arith}
use lib.ListN.{length, drop}
use Rattle.machine.specs.Call.{Call, Kind, split}
use Rattle.machine.specs.Machine.{step}
use Rattle.machine.specs.Run.{run, answers}
use Rattle.machine.specs.Counts.{is_send, is_receive, done_on, count_done, sent_to, received_from, pushes_out, full_sends}
use Rattle.machine.specs.RunClaims.{CountsConserved}
use Rattle.machine.proofs.Split.{split-few}
use Rattle.machine.proofs.Counts.{counts-conserved, run-append, answers-append, count-append, full-append}
use Rattle.totals_theory.specs.Totals.{Totals, no_counts, together, list_totals, table_after_lists, totals, calls_of}
use Rattle.totals_theory.specs.Claims.{SheetHolds, OneRun, ListByList, Few}

-- ---- all the calls as one list

pub one-run : OneRun
unfolding table_after_lists calls_of run
one-run t [] = refl
one-run t (ws ∷ lists) = one-run (run t (split ws)) lists ∙ sym (run-append t (split ws) (calls_of lists))

-- calls of a kind that were done, in the first list and in the others
done-over : (is : Kind → Bool) (e : ℕ) (t ws : List ℕ) (cs : List Call)
    → count_done is e (split ws ++ cs) (answers t (split ws ++ cs))
    ≡ count_done is e (split ws) (answers t (split ws)) + count_done is e cs (answers (run t (split ws)) cs)
done-over is e t ws cs =
    ap (count_done is e (split ws ++ cs)) (answers-append t (split ws) cs)
    ∙ count-append is e t (split ws) cs (answers (run t (split ws)) cs)

module _ (e : ℕ) where
  sent-over : (t : List ℕ) (lists : List (List ℕ)) → (totals e t lists).sent ≡ sent_to e (calls_of lists) (answers t (calls_of lists))
  unfolding totals no_counts together list_totals calls_of count_done
  sent-over t [] = refl
  sent-over t (ws ∷ lists) =
      omega (arith, sent-over (run t (split ws)) lists, done-over is_send e t ws (calls_of lists))

  received-over : (t : List ℕ) (lists : List (List ℕ)) → (totals e t lists).received ≡ received_from e (calls_of lists) (answers t (calls_of lists))
  unfolding totals no_counts together list_totals calls_of count_done
  received-over t [] = refl
  received-over t (ws ∷ lists) =
      omega (arith, received-over (run t (split ws)) lists, done-over is_receive e t ws (calls_of lists))

  lost-over : (t : List ℕ) (lists : List (List ℕ)) → (totals e t lists).lost ≡ full_sends e t (calls_of lists)
  unfolding totals no_counts together list_totals calls_of full_sends
  lost-over t [] = refl
  lost-over t (ws ∷ lists) =
      omega (arith, lost-over (run t (split ws)) lists, full-append e t (split ws) (calls_of lists))

pub sheet-holds : SheetHolds
sheet-holds t lists e a l =
    let cs = calls_of lists in
    let counts : CountsConserved e t cs (answers t cs) (table_after_lists t lists) =
    subst (λ (x : List ℕ). CountsConserved e t cs (answers t cs) x) (sym (one-run t lists))
    (rw append-nil at (counts-conserved t cs [] a e l)) in
    record {
      sent_over = sent-over e t lists;
      received_over = received-over e t lists;
      lost_over = lost-over e t lists;
      balance = omega (arith, counts.balance, sent-over e t lists, received-over e t lists, lost-over e t lists);
    }

-- ---- list by list

table-goes-on : (t : List ℕ) (lists : List (List ℕ)) (ws : List ℕ) → table_after_lists t (lists ++ (ws ∷ [])) ≡ run (table_after_lists t lists) (split ws)
unfolding table_after_lists
table-goes-on t [] ws = refl
table-goes-on t (vs ∷ lists) ws = table-goes-on (run t (split vs)) lists ws

same-totals : {a b : Totals} → a.sent ≡ b.sent → a.received ≡ b.received → a.lost ≡ b.lost → a ≡ b
same-totals {a} {b} p q r =
    ap₂ (λ (x y : ℕ). record { sent = x; received = y; lost = a.lost }) p q
    ∙ ap (λ (z : ℕ). record { sent = b.sent; received = b.received; lost = z }) r

-- addition of three totals is associative
together-first : (a b c : Totals) → together a (together b c) ≡ together (together a b) c
unfolding together
together-first a b c = same-totals (omega arith) (omega arith) (omega arith)

totals-go-on : (e : ℕ) (t : List ℕ) (lists : List (List ℕ)) (ws : List ℕ) → totals e t (lists ++ (ws ∷ [])) ≡ together (totals e t lists) (list_totals e (table_after_lists t lists) ws)
unfolding totals table_after_lists together no_counts
totals-go-on e t [] ws = same-totals (omega arith) (omega arith) (omega arith)
totals-go-on e t (vs ∷ lists) ws =
    ap (together (list_totals e t vs)) (totals-go-on e (run t (split vs)) lists ws) ∙ together-first _ _ _

pub list-by-list : ListByList
list-by-list e t lists ws = record { totals_go_on = totals-go-on e t lists ws; table_goes_on = table-goes-on t lists ws }

-- ---- no total is above the count of words

cond-one : (b : Bool) → cond b 1 0 ≤ 1
cond-one true = omega arith
cond-one false = omega arith

pub done-few : (is : Kind → Bool) (e : ℕ) (cs : List Call) (ws : List ℕ) → count_done is e cs ws ≤ length cs
unfolding count_done
done-few is e [] ws = omega arith
done-few is e (c ∷ cs) ws = omega (arith, cond-one (done_on is e c ws), done-few is e cs (drop 3 ws))

full-few : (e : ℕ) (t : List ℕ) (cs : List Call) → full_sends e t cs ≤ length cs
unfolding full_sends
full-few e t [] = omega arith
full-few e t (c ∷ cs) = omega (arith, cond-one (pushes_out e t c), full-few e (step t c) cs)

-- A list counts no more at an endpoint than it has words.
pub list-few : (e : ℕ) (t ws : List ℕ) → Few (list_totals e t ws) (length ws)
unfolding list_totals
list-few e t ws =
    record {
      sent = le_trans (done-few is_send e (split ws) (answers t (split ws))) (split-few ws);
      received = le_trans (done-few is_receive e (split ws) (answers t (split ws))) (split-few ws);
      lost = le_trans (full-few e t (split ws)) (split-few ws);
    }
