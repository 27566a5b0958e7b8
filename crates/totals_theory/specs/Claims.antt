-- What is claimed of the totals (document 02 (e)): they are those of all calls run as one list, sends plus waiting at the start
-- are received plus lost plus waiting at the end, and they can be computed list by list.
use Rattle.std.specs.Prelude.{ℕ, ◌+◌, ◌<◌, ◌≤◌, ◌≡◌, List, [], ◌∷◌, ◌++◌}
use Rattle.machine.specs.Table.{endpoints, endpoint}
use Rattle.machine.specs.Queue.{waiting}
use Rattle.machine.specs.Check.{Accepted}
use Rattle.machine.specs.Call.{split}
use Rattle.machine.specs.Run.{run, answers}
use Rattle.machine.specs.Counts.{sent_to, received_from, full_sends}
use Rattle.totals_theory.specs.Totals.{Totals, together, list_totals, table_after_lists, totals, calls_of}

-- The totals of the endpoint e over lists that were run from the table t and left the table end: each is the count of all their
-- calls as one list, and sends plus waiting at the start are received plus lost plus waiting at the end.
pub record SheetConserved (e : ℕ) (t : List ℕ) (lists : List (List ℕ)) (end : List ℕ) : Type 0 where
  pub sent_over : (totals e t lists).sent ≡ sent_to e (calls_of lists) (answers t (calls_of lists))
  pub received_over : (totals e t lists).received ≡ received_from e (calls_of lists) (answers t (calls_of lists))
  pub lost_over : (totals e t lists).lost ≡ full_sends e t (calls_of lists)
  pub balance : (totals e t lists).sent + waiting (endpoint t e) ≡ (totals e t lists).received + (totals e t lists).lost + waiting (endpoint end e)

-- This holds from every accepted table, for every endpoint that it has.
abbrev pub SheetHolds : Type 0
SheetHolds =
    (t : List ℕ) (lists : List (List ℕ)) (e : ℕ)
    → Accepted t
    → e < endpoints t
    → SheetConserved e t lists (table_after_lists t lists)

-- The table that lists leave is the one that all their calls leave, run as one list.
abbrev pub OneRun : Type 0
OneRun = (t : List ℕ) (lists : List (List ℕ)) → table_after_lists t lists ≡ run t (calls_of lists)

-- One list more: what it counts on the table so far is added, and that table is the one that it runs from.
pub record OneMore (e : ℕ) (t : List ℕ) (lists : List (List ℕ)) (ws : List ℕ) : Type 0 where
  pub totals_go_on : totals e t (lists ++ (ws ∷ [])) ≡ together (totals e t lists) (list_totals e (table_after_lists t lists) ws)
  pub table_goes_on : table_after_lists t (lists ++ (ws ∷ [])) ≡ run (table_after_lists t lists) (split ws)

-- The totals can be computed list by list.
abbrev pub ListByList : Type 0
ListByList = (e : ℕ) (t : List ℕ) (lists : List (List ℕ)) (ws : List ℕ) → OneMore e t lists ws

-- No count is above `most`.
pub record Few (counted : Totals) (most : ℕ) : Type 0 where
  pub sent : counted.sent ≤ most
  pub received : counted.received ≤ most
  pub lost : counted.lost ≤ most
