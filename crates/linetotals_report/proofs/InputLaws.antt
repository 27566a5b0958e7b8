-- The bytes of a whole table and those after it, as one input: how many are wanted, and the sheet. Assumes nothing.
use Prim.Native.Nat.{ℕ, ◌<◌}
use mathlib.Core.Path.{◌≡◌, refl, ap, ◌∙◌}
use mathlib.Core.Bool.{Bool, true, false, cond}
use mathlib.Core.List.{List, ◌++◌}
use native.Mathlib.Omega.{arith}
use borrow.Author.Tests.{eq-eqb}
use lib.Dec.{eqb}
use lib.ListN.{length, drop_of_length-le}
use Rattle.machine.specs.Table.{endpoints}
use Rattle.machine.specs.Check.{table_code, Accepted}
use Rattle.input_words.specs.TableInput.{table_end, no_table, table_of, after_table}
use Rattle.input_words.proofs.TableLaws.{Whole, whole, whole-table, whole-more, table_of-more, after_table-more, still-asks}
use Rattle.linetotals_text.specs.Lines.{last_line}
use Rattle.linetotals_input.specs.Input.{most_lists, lists_from, wanted}
use Rattle.linetotals_input.proofs.ListLaws.{still-wanted}
use Rattle.totals_add.specs.declared.Tally.{Tally}
use Rattle.linetotals_run.specs.declared.Phase.{Phase}
use Rattle.linetotals_run.specs.declared.Stage.{Stage}
use Rattle.linetotals_run.specs.Step.{waiting_at}
use Rattle.linetotals_theory.specs.Sheet.{totals_lines, table_sheet, sheet}

-- while fewer bytes follow than are wanted, more is wanted
pub still : (bytes more : List ℕ) → length more < wanted bytes → 0 < wanted (bytes ++ more)
unfolding wanted
still bytes more h = go (no_table bytes) refl
  where
    go : (b : Bool) → no_table bytes ≡ b → 0 < wanted (bytes ++ more)
    go true e =
        let asks = still-asks bytes more (simp e at h) in
        simp asks.0 asks.1
    go false e =
        let w = whole bytes e in
        simp (whole-table (bytes ++ more) (whole-more bytes more w), table_of-more bytes more w, after_table-more bytes more w)
        (check (eqb (table_code (table_of bytes)) 0) refl)
      where
        check : (b : Bool) → eqb (table_code (table_of bytes)) 0 ≡ b
            → 0 < cond (eqb (table_code (table_of bytes)) 0) (lists_from most_lists (after_table bytes ++ more)).wanted 0
        check true f = simp f (still-wanted most_lists (after_table bytes) more (simp (e, f) at h))
        check false f = absurd (omega (arith, simp (e, f) at h))

-- what a stage knows of an accepted table that these bytes end with
pub record Known (head : List ℕ) (s : Stage) : Type 0 where
  pub is_whole : Whole head
  pub ends : length head ≡ table_end head
  pub accepted : Accepted (table_of head)
  pub words : s.counts.words ≡ length (table_of head)
  pub endpoints_are : s.counts.endpoints ≡ endpoints (table_of head)
  pub start_is : s.counts.start ≡ waiting_at (table_of head)

-- a stage that has the same words, endpoints and waiting messages at the start knows the same
pub same-known : {head : List ℕ} {s : Stage} {p : Phase} {count : ℕ} {tally : Tally} → Known head s
    → Known head (record s { phase = p; counts = record s.counts { count = count; tally = tally } })
same-known k =
    record { is_whole = k.is_whole; ends = k.ends; accepted = k.accepted; words = k.words; endpoints_are = k.endpoints_are; start_is = k.start_is }

module _ {head : List ℕ} {s : Stage} (k : Known head s) (xs : List ℕ) where
  behind : after_table (head ++ xs) ≡ xs
  unfolding after_table
  behind =
      after_table-more head xs k.is_whole
      ∙ ap (λ (ys : List ℕ). ys ++ xs) (drop_of_length-le head {i = table_end head} (omega (arith, k.ends)))

  pub wanted-behind : wanted (head ++ xs) ≡ (lists_from most_lists xs).wanted
  unfolding wanted
  wanted-behind =
      simp (whole-table (head ++ xs) (whole-more head xs k.is_whole), table_of-more head xs k.is_whole, behind, eq-eqb (table_code (table_of head)) 0 k.accepted)

  pub sheet-behind : sheet (head ++ xs) ≡ totals_lines (table_of head) (lists_from most_lists xs).lists (lists_from most_lists xs).code
  unfolding sheet table_sheet
  sheet-behind =
      simp (whole-table (head ++ xs) (whole-more head xs k.is_whole), table_of-more head xs k.is_whole, behind, eq-eqb (table_code (table_of head)) 0 k.accepted)

-- an input without a whole table
pub sheet-none : (bytes : List ℕ) → no_table bytes ≡ true → sheet bytes ≡ last_line 0 7
unfolding sheet
sheet-none bytes e = simp e
