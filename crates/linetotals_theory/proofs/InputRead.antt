-- An input of a table and lists gives just these, whatever refuses a list after them (specs/Claims). Assumes nothing.
use Prim.Native.Nat.{ℕ, zero, suc, ◌+◌, ◌-◌, ◌*◌, ◌<◌, ◌≤◌, ◌^◌}
use mathlib.Core.Path.{◌≡◌, refl, sym, ap, ◌∙◌}
use mathlib.Core.Bool.{false}
use mathlib.Core.List.{List, [], ◌∷◌, ◌++◌, append-nil, append_assoc}
use borrow.Author.Tests.{eq-eqb}
use native.Mathlib.Omega.{arith}
use lib.ListN.{length, take, drop, length-append, length-drop}
use Rattle.machine.specs.Check.{table_code, Accepted}
use Rattle.machine.specs.Entry.{longest_list}
use Rattle.input_words.specs.Bytes.{word_at, words_of, bytes_of}
use Rattle.input_words.specs.TableInput.{no_table, table_of, after_table, with_length, TableWords}
use Rattle.input_words.proofs.WordLaws.{length-bytes_of}
use Rattle.input_words.proofs.TableLaws.{whole-table}
use Rattle.input_words.proofs.GivenTable.{words-first, after-words, first-word, after_first, given-whole, given-table, given-rest}
use Rattle.linetotals_input.specs.Input.{most_lists, Lists, stopped, then, lists_from, lists_of}
use Rattle.linetotals_input.proofs.ListLaws.{from_list, from-none, from-many, from_cut, from-long, from_list_lem, list-cut, list-whole}
use Rattle.linetotals_input.proofs.ListLoop.{prepend}
use Rattle.linetotals_theory.specs.Sheet.{table_sheet, sheet}
use Rattle.linetotals_theory.specs.Claims.{lists_bytes, input_of, ListWords, AllLists, WellFormed, ReadAs, EveryInputRead, EveryListRefused}

-- one list at the front of bytes
one_list : (left : ℕ) (ws rest : List ℕ) → ListWords ws → lists_from (suc left) (with_length ws ++ rest) ≡ then ws (lists_from left rest)
unfolding with_length
one_list left ws rest given =
    let n = length ws in
    let word : word_at (with_length ws ++ rest) 0 ≡ n = first-word n ws rest (omega (arith, given.short)) in
    let long : length (with_length ws ++ rest) ≡ 4 + 4 * n + length rest =
    omega (arith, length-append (with_length ws) rest, length-bytes_of (n ∷ ws)) in
    from_list_lem left (with_length ws ++ rest) (omega arith) (omega (arith, given.short))
    ∙ ap (λ (k : ℕ). from_list left k (drop 4 (with_length ws ++ rest))) word
    ∙ ap (from_list left n) (after_first n ws rest)
    ∙ list-whole left n (bytes_of ws ++ rest) (omega (arith, length-append (bytes_of ws) rest, length-bytes_of ws))
    ∙ ap (λ (l : List ℕ). then l (lists_from left (drop (4 * n) (bytes_of ws ++ rest)))) (words-first ws rest given.words)
    ∙ ap (λ (l : List ℕ). then ws (lists_from left l)) (after-words ws rest)

-- all the lists at the front of bytes, of which `most` may come
lists-first : (lists : List (List ℕ)) (most left : ℕ) (tail : List ℕ) → AllLists lists → most ≡ length lists + left
    → lists_from most (lists_bytes lists ++ tail) ≡ prepend lists (lists_from left tail)
unfolding lists_bytes AllLists prepend then
lists-first [] most left tail given e = ap (λ (n : ℕ). lists_from n tail) (e ∙ omega arith)
lists-first (ws ∷ lists) zero left tail given e = absurd (omega (arith, e))
lists-first (ws ∷ lists) (suc most) left tail given e =
    ap (lists_from (suc most)) (append_assoc (with_length ws) (lists_bytes lists) tail)
    ∙ one_list most ws (lists_bytes lists ++ tail) given.0
    ∙ ap (then ws) (lists-first lists most left tail given.1 (omega (arith, e)))

module _ (t : List ℕ) (lists : List (List ℕ)) (given : WellFormed t lists) where
  -- an input with a tail after its lists, where no list follows
  read_as : (tail : List ℕ) (code wanted : ℕ) → lists_from (most_lists - length lists) tail ≡ stopped code wanted
      → ReadAs t lists code (input_of t lists ++ tail)
  unfolding input_of prepend stopped sheet table_sheet
  read_as tail code wanted stops =
      let bytes = input_of t lists ++ tail in
      let parts : bytes ≡ with_length t ++ (lists_bytes lists ++ tail) = append_assoc (with_length t) (lists_bytes lists) tail in
      let whole : no_table bytes ≡ false = ap no_table parts ∙ whole-table _ (given-whole t (lists_bytes lists ++ tail) given.table) in
      let table : table_of bytes ≡ t = ap table_of parts ∙ given-table t (lists_bytes lists ++ tail) given.table in
      let all : lists_of bytes ≡ prepend lists (stopped code wanted) =
      ap lists_of parts
      ∙ ap (lists_from most_lists) (given-rest t (lists_bytes lists ++ tail) given.table)
      ∙ lists-first lists most_lists (most_lists - length lists) tail given.each_list (omega (arith, given.few))
      ∙ ap (prepend lists) stops in
      let listed : (lists_of bytes).lists ≡ lists = ap (λ (x : Lists). x.lists) all ∙ append-nil lists in
      let coded : (lists_of bytes).code ≡ code = ap (λ (x : Lists). x.code) all in
      record {
        has_table = whole;
        table_is = table;
        lists_are = listed;
        code_is = coded;
        printed = λ accepted. simp (whole, table, eq-eqb (table_code t) 0 accepted, listed, coded);
      }

pub input-read : EveryInputRead
input-read t lists given =
    rw (sym (append-nil (input_of t lists))) (read_as t lists given [] 0 _ (from-none (most_lists - length lists)))

-- where one list more may come
one_more : (lists : List (List ℕ)) (tail : List ℕ) → length lists < most_lists
    → lists_from (most_lists - length lists) tail ≡ lists_from (suc (most_lists - suc (length lists))) tail
one_more lists tail h = ap (λ (n : ℕ). lists_from n tail) (omega arith)

pub list-refused : EveryListRefused
list-refused t lists tail given =
    record {
      too_many =
          λ full some.
          let none : most_lists - length lists ≡ 0 = omega arith in
          read_as t lists given tail 1 _ (ap (λ (n : ℕ). lists_from n tail) none ∙ from-many tail some);
      cut_word = λ more some cut. read_as t lists given tail 7 _ (one_more lists tail more ∙ from_cut _ tail some cut);
      long_list = λ more word long. read_as t lists given tail 1 _ (one_more lists tail more ∙ from-long _ tail word long);
      cut_list =
          λ more word short cut.
          read_as t lists given tail 7 _
          (one_more lists tail more
          ∙ from_list_lem _ tail word short
          ∙ list-cut _ (word_at tail 0) (drop 4 tail) (omega (arith, length-drop 4 tail)));
    }
