-- The names passed differ.
use mathlib.Core.Bool.{true, not}
use lib.Dec.{eqb}
use lib.ListN.{get_or}
use Rattle.table_words.proofs.Scan.{Scanned}
use Rattle.table_check.proofs.names.is_new.Given as goal

abbrev pub invariant-loop-f : goal.invariant-loop-f
invariant-loop-f l = Scanned (λ g. not (eqb (get_or l.names g 0) (get_or l.names l.e 0))) l.e true l.f
