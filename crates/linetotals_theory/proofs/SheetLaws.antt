-- The sheet of an input: where the reading asks for nothing more, what follows makes no difference; and the lines of an accepted
-- table balance. Assumes nothing.
use Prim.Native.Nat.{ℕ}
use mathlib.Core.Path.{◌≡◌, refl, ap}
use mathlib.Core.Bool.{Bool, true, false}
use mathlib.Core.List.{List, ◌++◌}
use borrow.Author.Tests.{eq-eqb}
use lib.Dec.{eqb}
use Rattle.machine.specs.Check.{table_code}
use Rattle.input_words.specs.TableInput.{no_table, table_of, after_table}
use Rattle.input_words.proofs.TableLaws.{Whole, whole, whole-table, no_more, no-table-more, whole-more, table_of-more, after_table-more}
use Rattle.totals_theory.proofs.TotalsLaws.{sheet-holds}
use Rattle.linetotals_input.specs.Input.{most_lists, lists_from, lists_of, wanted}
use Rattle.linetotals_input.proofs.ListLaws as lists
use Rattle.linetotals_theory.specs.Sheet.{table_sheet, sheet, NothingFollows, EveryPrintedConserved}

pub nothing-follows : NothingFollows
unfolding sheet table_sheet wanted
nothing-follows bytes more done = go (no_table bytes) refl
  where
    go : (b : Bool) → no_table bytes ≡ b → sheet (bytes ++ more) ≡ sheet bytes
    go true e =
        let long = no_more bytes e (simp e at done) in
        simp (e, no-table-more bytes more long.0 long.1)
    go false e =
        let w : Whole bytes = whole bytes e in
        simp (e, whole-table (bytes ++ more) (whole-more bytes more w), table_of-more bytes more w, after_table-more bytes more w)
        (check (eqb (table_code (table_of bytes)) 0) refl)
      where
        check : (b : Bool) → eqb (table_code (table_of bytes)) 0 ≡ b
            → table_sheet (table_of bytes) (lists_from most_lists (after_table bytes ++ more)) ≡ table_sheet (table_of bytes) (lists_from most_lists (after_table bytes))
        check true f = ap (table_sheet (table_of bytes)) (lists.nothing-follows most_lists (after_table bytes) more (simp (e, f) at done))
        check false f = simp f

-- the lines of an accepted table are those of the totals, which balance
pub printed-conserved : EveryPrintedConserved
unfolding sheet table_sheet
printed-conserved bytes e a =
    record {
      lines = simp (e, eq-eqb (table_code (table_of bytes)) 0 a);
      conserved = λ i l. sheet-holds (table_of bytes) (lists_of bytes).lists i a l;
    }
