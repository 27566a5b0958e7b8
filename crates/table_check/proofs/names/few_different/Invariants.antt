-- The names passed are new.
use mathlib.Core.Bool.{true}
use lib.ListN.{length}
use Rattle.table_check.specs.Names.{new_at}
use Rattle.table_words.proofs.Scan.{Scanned}
use Rattle.table_check.proofs.names.few_different.Given as goal

abbrev pub invariant-loop-e : goal.invariant-loop-e
invariant-loop-e l = Scanned (new_at l.names) (length l.names) true l.e
