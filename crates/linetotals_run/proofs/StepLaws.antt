-- The step of a stage, phase by phase: what each function leaves is what the definition says. Assumes nothing.
use Prim.Native.Nat.{ℕ, ◌*◌, ◌≤◌, min}
use mathlib.Core.Path.{◌≡◌, refl, sym, ap, ap₂, ◌∙◌}
use mathlib.Core.Bool.{Bool, true, false}
use mathlib.Core.List.{List, ◌++◌}
use native.Mathlib.Decide.{dec_le}
use native.Mathlib.Omega.{arith}
use borrow.Author.Tests.{le-ltb}
use lib.Dec.{eqb}
use lib.ListN.{length, take, drop, drop_of_length-le}
use lib.Seq.{take_all}
use Rattle.machine.specs.Table.{domains}
use Rattle.machine.specs.Entry.{Outcome}
use Rattle.text.specs.Write.{overwrite}
use Rattle.input_words.specs.Bytes.{words_of}
use Rattle.totals_theory.specs.Totals.{list_totals}
use Rattle.totals_add.specs.declared.Tally.{Tally}
use Rattle.totals_add.specs.Added.{added_if_run, ListAdded}
use Rattle.totals_add.proofs.TallyLaws.{same-tally}
use Rattle.linetotals_run.specs.declared.Stage.{Stage}
use Rattle.linetotals_run.specs.Step.{State, tally_with, list_ran, table_at, entered, list_whole, list_read, Left}

-- ---- parts that are lent

-- as far as there are words, the first k are the first of as many as there are
pub take-least : (k d : ℕ) (xs : List ℕ) → k ≡ min d (length xs) → take k xs ≡ take d xs
take-least k d xs is = go (dec_le d (length xs))
  where
    go : Dec (d ≤ length xs) → take k xs ≡ take d xs
    go (yes h) = let same : k ≡ d = omega arith in ap (λ (i : ℕ). take i xs) same
    go (no h) = take_all k xs (omega arith) ∙ sym (take_all d xs (omega arith))

pub drop-least : (k d : ℕ) (xs : List ℕ) → k ≡ min d (length xs) → drop k xs ≡ drop d xs
drop-least k d xs is = go (dec_le d (length xs))
  where
    go : Dec (d ≤ length xs) → drop k xs ≡ drop d xs
    go (yes h) = let same : k ≡ d = omega arith in ap (λ (i : ℕ). drop i xs) same
    go (no h) = drop_of_length-le xs {i = k} (omega arith) ∙ sym (drop_of_length-le xs {i = d} (omega arith))

-- ---- a list that was run

module _ (x : State) (n : ℕ) (bytes : List ℕ) (all : 4 * n ≤ length bytes) where
  -- the totals with it, where it wasn't refused
  same-stage : {code : ℕ} {tally' : Tally} (o : Outcome) (t ws head : List ℕ) → code ≡ o.code
      → tally'.sent ≡ added_if_run code t x.stage.counts.tally.sent (λ e. (list_totals e t ws).sent)
      → tally'.received ≡ added_if_run code t x.stage.counts.tally.received (λ e. (list_totals e t ws).received)
      → tally'.lost ≡ added_if_run code t x.stage.counts.tally.lost (λ e. (list_totals e t ws).lost)
      → list_ran x.stage code tally' head ≡ list_ran x.stage o.code (tally_with t ws x.stage.counts.tally) head
  unfolding list_ran added_if_run tally_with
  same-stage {code} {tally'} o t ws head is sent received lost = rw (← is) (go (eqb code 0) refl)
    where
      go : (b : Bool) → eqb code 0 ≡ b → list_ran x.stage code tally' head ≡ list_ran x.stage code (tally_with t ws x.stage.counts.tally) head
      go true e =
          ap (λ (y : Tally). list_ran x.stage code y head) (same-tally (simp e at sent) (simp e at received) (simp e at lost))
      go false e = simp e

  -- the parts that are lent for it: the table, the list, and the words for the holders, of which there are `lent`
  pub list_left : {ws t holders : List ℕ} {o : Outcome} {lent : ℕ} {tally' : Tally} {r : Stage} {list : List ℕ}
      → ws ≡ words_of (take (4 * n) bytes) → t ≡ table_at x → lent ≡ min (domains t) (length x.holders) → holders ≡ take lent x.holders
      → ListAdded t ws x.answers holders o x.stage.counts.tally tally'
      → r ≡ list_ran x.stage o.code tally' (drop (4 * n) bytes) → list ≡ overwrite 0 (words_of (take (4 * n) bytes)) x.list
      → Left (list_read n x bytes) r (o.table ++ drop x.stage.counts.words x.table) list o.answers (o.holders ++ drop lent x.holders)
  unfolding list_read list_whole
  list_left ws-is t-is Lent-is holders-are y is list-is =
      let d = domains (table_at x) in
      let least = Lent-is ∙ ap (λ (u : List ℕ). min (domains u) (length x.holders)) t-is in
      let z = rw (ws-is, t-is, holders-are ∙ take-least _ d x.holders least) at y in
      rw (le-ltb (length bytes) (4 * n) all)
      (record {
        stage_is = is ∙ same-stage (entered x (words_of (take (4 * n) bytes))) (table_at x) (words_of (take (4 * n) bytes)) (drop (4 * n) bytes) z.run.same_code z.sent_added z.received_added z.lost_added;
        table_is = ap (λ (u : List ℕ). u ++ drop x.stage.counts.words x.table) z.run.same_table;
        list_is = list-is;
        answers_are = z.run.same_answers;
        holders_are = ap₂ (λ (u v : List ℕ). u ++ v) z.run.same_holders (drop-least _ d x.holders least);
      })
