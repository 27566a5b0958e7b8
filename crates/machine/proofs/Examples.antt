-- The rows hold, each by computation: L and P1 to P12, every code, every word of a table, every field of a call, words that no
-- check accepts, those that pin sources, purge and view, and the counts.
-- Assumes nothing.
use mathlib.Core.Path.{◌≡◌, refl, ap}
use mathlib.Core.List.{map}
use Prim.Native.Nat.{ℕ}
use native.Mathlib.Omega.{arith}
use lib.ListN.{get_or}
use Rattle.machine.specs.Call.{split}
use Rattle.machine.specs.Purge.{View}
use Rattle.machine.proofs.Everything.{everything}
use Rattle.machine.specs.Examples.{EveryRow, rows}
use Rattle.machine.specs.CodeExamples.{code_rows}
use Rattle.machine.specs.TableExamples.{EveryTable, table_rows, altered, named_codes, found_codes}
use Rattle.machine.specs.FieldExamples.{field_rows, each, removed_of_all}
use Rattle.machine.specs.AnyWordsExamples.{AnyWordsHold, of_any_words}
use Rattle.machine.specs.CountExamples.{CountRowHolds, counted}
use Rattle.machine.specs.PurgeExamples.{EveryPurgeRow, purge_rows, bits_of, sets_at, purged, sources_in, kept_in, LastTableRuleFails, send_and_go, may_go}

pub every-row : EveryRow rows
unfolding everything
every-row =
    (refl, (refl, (refl, (refl, (refl, (refl, (refl, (refl, (refl, (refl, (refl, (refl, (refl, (refl, (refl, tt)))))))))))))))

pub every-purge-row : EveryPurgeRow purge_rows
unfolding everything bits_of sets_at purged
every-purge-row =
    (refl, (refl, (refl, (refl, (refl, (refl, (refl, (refl, (refl, (refl, (refl, (refl, (refl, tt)))))))))))))

pub every-code-row : EveryRow code_rows
unfolding everything
every-code-row = (refl, (refl, (refl, (refl, (refl, (refl, (refl, tt)))))))

pub every-table : EveryTable table_rows
unfolding everything altered named_codes found_codes
every-table = (refl, (refl, (refl, (refl, (refl, (refl, (refl, (refl, tt))))))))

pub every-field-row : EveryRow field_rows
unfolding everything each removed_of_all
every-field-row = (refl, (refl, (refl, (refl, (refl, (refl, tt))))))

pub any-words-row : AnyWordsHold
unfolding everything of_any_words
any-words-row = refl

pub count-row : CountRowHolds
unfolding everything counted
count-row = (refl, refl)

-- the waiting word of the first queue that a view shows
waits : View → ℕ
waits v = get_or (map (λ q. get_or q.1 0 0) v.queues) 0 0

-- of the whole list a message waits for 0, and of the calls that the last table keeps none
pub last-table-rule-fails : LastTableRuleFails
unfolding everything sources_in kept_in waits
last-table-rule-fails rule =
    let waiting : ◌≡◌ {A = ℕ} 0x5000_0001 0x5000_0000 = ap waits (rule may_go (split send_and_go) 0 refl (omega arith)) in
    omega arith
