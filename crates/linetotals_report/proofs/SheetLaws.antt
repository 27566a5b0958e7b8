-- The lines after a stage, where what it counted is that of lists which were run from its table: they are the sheet's. Assumes
-- nothing.
use Prim.Native.Nat.{ℕ, zero, suc, ◌≤◌, ◌<◌, min}
use mathlib.Core.Path.{◌≡◌, refl, ap, ap₂, ◌∙◌}
use mathlib.Core.Bool.{Bool, cond}
use mathlib.Core.List.{List, ◌++◌}
use native.Mathlib.Omega.{arith}
use borrow.Author.Tests.{lt-ltb}
use lib.Dec.{ltb}
use lib.ListN.{length, get_or, take}
use Rattle.machine.specs.Table.{endpoints, endpoint}
use Rattle.machine.specs.Queue.{waiting}
use Rattle.machine.specs.Check.{Accepted}
use Rattle.machine.proofs.Below.{words-at}
use Rattle.machine.proofs.Accepted.{accepted-counts}
use Rattle.totals_theory.specs.Totals.{totals, table_after_lists}
use Rattle.totals_add.specs.declared.Tally.{Tally}
use Rattle.totals_add.specs.Tallied.{of_endpoints, tally_of, Tallied}
use Rattle.linetotals_text.specs.Lines.{last_line}
use Rattle.linetotals_run.specs.declared.Stage.{Stage}
use Rattle.linetotals_run.specs.declared.Phase.TheVariants.{Over}
use Rattle.linetotals_run.specs.Stage.{in_phase}
use Rattle.linetotals_run.specs.Step.{waiting_at}
use Rattle.linetotals_theory.specs.Sheet.{totals_line, endpoint_lines, totals_lines}
use Rattle.linetotals_report.specs.Report.{counts_line, counts_lines, stage_lines}

-- the words of the endpoints
of_at : (m : ℕ) (f : ℕ → ℕ) (e : ℕ) {xs : List ℕ} → xs ≡ of_endpoints m f → e < m → e < 32 → get_or xs e 0 ≡ f e
unfolding of_endpoints
of_at m f e is l k =
    ap (λ (xs : List ℕ). get_or xs e 0) is
    ∙ words-at 32 (λ e. cond (ltb e m) (f e) 0) e 0 k
    ∙ ap (λ (b : Bool). cond b (f e) 0) (lt-ltb e m l)

module _ (t : List ℕ) (lists : List (List ℕ)) {tally : Tally} {start end : List ℕ} (tally-is : tally ≡ tally_of t lists)
    (start_is : start ≡ waiting_at t) (end_is : end ≡ waiting_at (table_after_lists t lists)) where
  line-is : (e : ℕ) → e < endpoints t → e < 32 → counts_line tally.sent tally.received tally.lost start end e ≡ totals_line t lists e
  unfolding counts_line totals_line tally_of
  line-is e l k =
      let sent = of_at (endpoints t) (λ e. (totals e t lists).sent) e (ap (λ (a : Tally). a.sent) tally-is) l k in
      let received = of_at (endpoints t) (λ e. (totals e t lists).received) e (ap (λ (a : Tally). a.received) tally-is) l k in
      let lost = of_at (endpoints t) (λ e. (totals e t lists).lost) e (ap (λ (a : Tally). a.lost) tally-is) l k in
      let starts = ap (λ (xs : List ℕ). get_or xs e 0) start_is ∙ words-at 32 (λ e. waiting (endpoint t e)) e 0 k in
      let ends = ap (λ (xs : List ℕ). get_or xs e 0) end_is ∙ words-at 32 (λ e. waiting (endpoint (table_after_lists t lists) e)) e 0 k in
      rw (sent, received, lost, starts, ends)

  lines_are : (k : ℕ) → k ≤ endpoints t → k ≤ 32 → counts_lines tally.sent tally.received tally.lost start end k ≡ endpoint_lines t lists k
  unfolding counts_lines endpoint_lines
  lines_are zero l f = refl
  lines_are (suc k) l f = ap₂ (λ (a b : List ℕ). a ++ b) (lines_are k (omega arith) (omega arith)) (line-is k (omega arith) (omega arith))

-- a stage that counted the lists
pub over-lines : (t : List ℕ) (lists : List (List ℕ)) (s : Stage) (table : List ℕ) (code : ℕ) → Accepted t → s.counts.endpoints ≡ endpoints t
    → s.counts.start ≡ waiting_at t → s.counts.count ≡ length lists → Tallied t lists s.counts.tally (take s.counts.words table)
    → stage_lines (in_phase (Over code) s) table ≡ totals_lines t lists code
unfolding stage_lines totals_lines
over-lines t lists s table code a ends starts count tallied =
    let few = (accepted-counts t a).2 in
    let all : min s.counts.endpoints 32 ≡ endpoints t = omega (arith, ends, few) in
    ap₂ (λ (u v : List ℕ). u ++ v)
    (ap (counts_lines s.counts.tally.sent s.counts.tally.received s.counts.tally.lost s.counts.start (waiting_at (take s.counts.words table))) all
    ∙ lines_are t lists tallied.tally_is starts (ap waiting_at tallied.table_is) (endpoints t) (omega arith) few)
    (ap (λ (n : ℕ). last_line n code) count)

-- a stage that counted nothing
pub no_lines : (s : Stage) (table : List ℕ) (code : ℕ) → s.counts.endpoints ≡ 0 → s.counts.count ≡ 0 → stage_lines (in_phase (Over code) s) table ≡ last_line 0 code
unfolding stage_lines counts_lines
no_lines s table code ends count = rw (ends, count)
