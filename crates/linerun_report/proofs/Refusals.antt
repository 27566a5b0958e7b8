-- Refusals of `linerun` for every input. What is refused prints the first line alone. Each of the conditions of 7 gives it. A list one
-- word too long gives code 1, whatever is wrong with the table and whatever follows. Code 6 never comes, since there is space for
-- every list that is short enough, and a word for each domain of a table that is accepted. Assumes nothing.
use Prim.Native.Nat.{ℕ, ◌-◌, ◌*◌, ◌%◌, ◌≤◌, ◌<◌}
use mathlib.Core.Path.{◌≡◌, sym, ap, ◌∙◌}
use mathlib.Core.Bool.{true, not, or-true}
use mathlib.Core.List.{List, ◌++◌, append-nil}
use borrow.Author.Tests.{eqb-true, ltb-true, ltb-false, lt-ltb, ne_eqb}
use native.Mathlib.Nat.{min-eq_left}
use native.Mathlib.Omega.{arith}
use lib.Dec.{eqb, ltb}
use lib.ListN.{length, length-append, length-take, length-replicate}
use Rattle.machine.specs.Call.{split}
use Rattle.machine.specs.Table.{domains}
use Rattle.machine.specs.Check.{header_ok, length_ok, rights_ok, endpoints_ok, table_code, Accepted}
use Rattle.machine.specs.Entry.{Outcome, longest_list, space_code, entry_code, refusal}
use Rattle.machine.proofs.Bools.{cond-elim}
use Rattle.machine.proofs.Split.{split-few}
use Rattle.machine.proofs.Accepted.{accepted-counts}
use Rattle.machine.proofs.Promise.{entry-code, entry-refused, code-long, holders-fit}
use Rattle.input_words.specs.Bytes.{words_of, bytes_of}
use Rattle.input_words.specs.TableInput.{no_table, table_of, after_table}
use Rattle.input_words.proofs.WordLaws.{length-words_of, length-bytes_of}
use Rattle.input_words.proofs.GivenTable.{given-rest}
use Rattle.input_words.proofs.TableLaws.{Whole, whole, whole-table, whole-more, after_table-more}
use Rattle.linerun_input.specs.Input.{list_words_read, list_of, left_over, unreadable, wanted}
use Rattle.linerun_text.specs.Lines.{first_line}
use Rattle.linerun_report.specs.Lines.{call_lines, all_lines}
use Rattle.linerun_report.specs.Report.{answer_space, holders_space, outcome_lines, answered, report}
use Rattle.linerun_report.specs.Report.{EveryLongListStops, SevenByTable, EverySeven, EveryRefusedAlone, NeverSix}
use Rattle.linerun_input.proofs.InputLaws.{no-left-over}
use Rattle.linerun_report.proofs.ReportLaws.{answered-unreadable, refused-none}

-- where there are as many list words as are read, the list is one word too long
long : (bytes : List ℕ) → 4 * list_words_read ≤ length (after_table bytes) → longest_list < length (list_of bytes)
unfolding list_of
long bytes h =
    omega (
      arith,
      length-take list_words_read (words_of (after_table bytes)),
      length-words_of (after_table bytes),
    )

one-word-too-many : (bytes : List ℕ) → Whole bytes → 4 * list_words_read ≤ length (after_table bytes) → report bytes ≡ first_line 0 1
unfolding report answered unreadable outcome_lines all_lines call_lines refusal
one-word-too-many bytes w h =
    let t = table_of bytes in
    let ws = list_of bytes in
    let one : entry_code t ws (length answer_space) (length (holders_space t)) ≡ 1 = code-long t ws _ _ (long bytes h) in
    let refused = entry-refused t ws answer_space (holders_space t) (λ z. omega arith) in
    simp (whole-table bytes w, no-left-over (after_table bytes) h, refused, one, append-nil)

pub long-list-stops : EveryLongListStops
unfolding wanted
long-list-stops bytes e h =
    let w : Whole bytes = whole bytes e in
    let none : 4 * list_words_read - length (after_table bytes) ≡ 0 = omega arith in
    record {
      stops = simp (e, none);
      one =
          λ more.
          one-word-too-many (bytes ++ more) (whole-more bytes more w)
          (omega (arith, ap length (after_table-more bytes more w), length-append (after_table bytes) more));
    }

-- an outcome without calls has the first line alone
no-calls : (o : Outcome) → o.calls ≡ 0 → outcome_lines o ≡ first_line 0 o.code
unfolding outcome_lines all_lines call_lines
no-calls o none = rw none (append-nil (first_line 0 o.code))

pub refused-alone : EveryRefusedAlone
unfolding report
refused-alone bytes code = no-calls (answered bytes answer_space) (refused-none bytes answer_space code)

-- an input that is refused by 7
unreadable-seven : (bytes : List ℕ) → unreadable bytes ≡ true → report bytes ≡ first_line 0 7
unfolding report outcome_lines all_lines call_lines refusal
unreadable-seven bytes e = simp (answered-unreadable bytes answer_space e, append-nil)

seven-by-table : (bytes : List ℕ) → SevenByTable bytes
unfolding unreadable no_table
seven-by-table bytes =
    record {
      no_word = λ short. unreadable-seven bytes (simp (lt-ltb _ _ short));
      long_table = λ _ long. unreadable-seven bytes (simp (lt-ltb _ _ long, or-true));
      cut_table = λ _ cut. unreadable-seven bytes (simp (lt-ltb _ _ cut, or-true));
    }

bytes-left-over : (ws tail : List ℕ) → length ws ≤ longest_list → 0 < length tail → length tail < 4 → left_over (bytes_of ws ++ tail) ≡ true
unfolding left_over
bytes-left-over ws tail short some few =
    let all = length-append (bytes_of ws) tail in
    let words = length-bytes_of ws in
    let within : length (bytes_of ws ++ tail) < 4 * list_words_read = omega (arith, all, words) in
    let over : length (bytes_of ws ++ tail) % 4 ≡ 0 → ⊥ = λ z. omega (arith, all, words) in
    simp (lt-ltb _ _ within, ne_eqb _ _ over)

pub every-seven : EverySeven
unfolding unreadable
every-seven = (
  seven-by-table,
  λ t ws tail given short some few.
      unreadable-seven _ (simp (given-rest t (bytes_of ws ++ tail) given, bytes-left-over ws tail short some few, or-true)),
)

-- Code 6 comes from an answer space that is too small, and one with three words for each word of the longest list never is.
no-table-six : (t : List ℕ) → table_code t ≡ 6 → ⊥
unfolding table_code
no-table-six t =
    cond-elim (λ (code : ℕ). code ≡ 6 → ⊥) (not (header_ok t)) (λ _ e. omega arith)
    (λ _.
    cond-elim (λ (code : ℕ). code ≡ 6 → ⊥) (not (length_ok t)) (λ _ e. omega arith)
    (λ _.
    cond-elim (λ (code : ℕ). code ≡ 6 → ⊥) (not (rights_ok t)) (λ _ e. omega arith)
    (λ _. cond-elim (λ (code : ℕ). code ≡ 6 → ⊥) (not (endpoints_ok t)) (λ _ e. omega arith) (λ _ e. omega arith))))

-- Code 6 also comes from other than a word for each domain, of which an accepted table has at most sixteen.
one-a-domain : (t : List ℕ) → Accepted t → length (holders_space t) ≡ domains t
unfolding holders_space
one-a-domain t a = length-replicate _ _ ∙ min-eq_left (accepted-counts t a).1

pub never-six : NeverSix
unfolding entry_code space_code answer_space
never-six t ws e =
    cond-elim (λ (code : ℕ). code ≡ 6 → ⊥) (ltb longest_list (length ws)) (λ _ e. omega arith)
    (λ short.
    cond-elim (λ (code : ℕ). code ≡ 6 → ⊥) (eqb (table_code t) 0)
    (λ accepted.
    cond-elim (λ (code : ℕ). code ≡ 6 → ⊥) (ltb (length answer_space) (3 * length (split ws)))
    (λ more _. omega (arith, ltb-true (length answer_space) (3 * length (split ws)) more, ltb-false longest_list (length ws) short, split-few ws))
    (λ _ e. omega (arith, e, holders-fit t _ (one-a-domain t (eqb-true _ _ accepted)))))
    (λ _. no-table-six t))
    (sym (entry-code t ws answer_space (holders_space t)) ∙ e)
