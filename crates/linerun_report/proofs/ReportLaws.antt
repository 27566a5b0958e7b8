-- The report as the functions make it: the two cases of the definition, and how many calls there are. Where the reading stops
-- before the input ends, no further byte makes a difference to it. Assumes nothing.
use Prim.Native.Nat.{ℕ, zero, suc, ◌*◌, ◌%◌, ◌≤◌, ◌<◌, min, zero-le}
use mathlib.Core.Path.{◌≡◌, refl, sym, ap, ◌∙◌}
use mathlib.Core.Bool.{Bool, true, false, and-false}
use mathlib.Core.List.{List, [], ◌∷◌, ◌++◌, append-nil}
use borrow.Author.Tests.{ltb-false, eq-eqb}
use native.Mathlib.Nat.{not-suc-le-zero, le_of_suc-le-suc, min-le_right}
use native.Mathlib.Omega.{arith}
use lib.Dec.{eqb, ltb}
use lib.ListN.{length, take, drop, replicate, length-append}
use lib.Seq.{take_all}
use Rattle.machine.specs.Table.{domains}
use Rattle.machine.specs.Entry.{Outcome, longest_list, entry_code, refusal, ran, entry}
use Rattle.machine.specs.Call.{split}
use Rattle.machine.specs.Run.{answers}
use Rattle.machine.specs.Promise.{RunPromise}
use Rattle.machine.proofs.Bools.{cond-elim}
use Rattle.machine.proofs.Counts.{answers-length}
use Rattle.machine.proofs.Promise.{calls-few, code-small}
use Rattle.text.specs.Write.{Fills}
use Rattle.text.proofs.WriteLaws.{fills-front}
use Rattle.input_words.specs.Bytes.{words_of, bytes_of, AllWords}
use Rattle.input_words.specs.TableInput.{no_table, table_of, after_table, with_length, TableWords}
use Rattle.input_words.proofs.WordLaws.{words_of-bytes_of, length-bytes_of}
use Rattle.input_words.proofs.GivenTable.{given-whole, given-table, given-rest}
use Rattle.input_words.proofs.TableLaws.{Whole, whole, whole-table, no_more, no-table-more, whole-more, table_of-more, after_table-more}
use Rattle.linerun_input.specs.Input.{list_words_read, list_of, left_over, unreadable, wanted, Reads}
use Rattle.linerun_input.proofs.InputLaws.{no-left-over, list_of-more, list-part}
use Rattle.linerun_report.specs.Lines.{all_lines}
use Rattle.linerun_report.specs.Report.{answer_space, holders_space, outcome_lines, answered, report, NothingFollows, EveryWordsReported, Follows}
use Rattle.linerun_report.specs.Cursor.{calls_of, code_of, FirstLines, Prints}
use Rattle.linerun_report.specs.declared.Lines.{Lines}

pub answered-unreadable : (bytes space : List ℕ) → unreadable bytes ≡ true → answered bytes space ≡ refusal 7 [] space []
unfolding answered
answered-unreadable bytes space e = simp e

-- where what ran is the input's table and list, what it returned and left is what is answered
pub answered-ran : (bytes : List ℕ) {table list space holders : List ℕ} {code calls : ℕ} {answers end kept : List ℕ}
    → unreadable bytes ≡ false
    → table ≡ table_of bytes → list ≡ list_of bytes → holders ≡ holders_space (table_of bytes)
    → RunPromise table list space holders code calls answers end kept
    → (calls ≡ (answered bytes space).calls) × (code ≡ (answered bytes space).code) × (answers ≡ (answered bytes space).answers)
unfolding answered
answered-ran bytes e t l h p =
    let q = rw (t, l, h) at p in
    (simp e q.same_calls, simp e q.same_code, simp e q.same_answers)

-- the words that are lent for the holders, as a part of sixteen
take-replicate : (k n : ℕ) → k ≤ n → take k (replicate {A = ℕ} n 0) ≡ replicate k 0
take-replicate zero n l = refl
take-replicate (suc k) zero l = absurd (not-suc-le-zero l)
take-replicate (suc k) (suc n) l = ap (λ (ws : List ℕ). 0 ∷ ws) (take-replicate k n (le_of_suc-le-suc l))

pub lent-part : (t : List ℕ) {k : ℕ} → k ≡ min (domains t) 16 → take k (replicate {A = ℕ} 16 0) ≡ holders_space t
unfolding holders_space
lent-part t e = rw e (take-replicate (min (domains t) 16) 16 (min-le_right (domains t) 16))

-- so it is where a table, a list and words for the holders are lent as parts
pub answered_run : (bytes : List ℕ) {room table stock list space : List ℕ} {words listed lent code calls : ℕ} {answers end kept : List ℕ}
    → unreadable bytes ≡ false
    → length (table_of bytes) ≤ length room → Fills (table_of bytes) room words table
    → length stock ≡ list_words_read → Fills (words_of (after_table bytes)) stock listed list
    → lent ≡ min (domains (take words table)) 16
    → RunPromise (take words table) (take listed list) space (take lent (replicate {A = ℕ} 16 0)) code calls answers end kept
    → (calls ≡ (answered bytes space).calls) × (code ≡ (answered bytes space).code) × (answers ≡ (answered bytes space).answers)
answered_run bytes e fits t long l h p =
    let table_is = (fills-front fits t).1 in
    answered-ran bytes e table_is (list-part bytes long l) (lent-part (table_of bytes) (h ∙ ap (λ ws. min (domains ws) 16) table_is)) p

-- there are no more calls than the longest list has words
pub answered-few : (bytes space : List ℕ) → (answered bytes space).calls ≤ longest_list
unfolding answered refusal
answered-few bytes space =
    cond-elim (λ (o : Outcome). o.calls ≤ longest_list) (unreadable bytes) (λ _. zero-le)
    (λ _. calls-few (table_of bytes) (list_of bytes) space (holders_space (table_of bytes)))

-- the code is 0, one of the entry's, or the program's own
pub answered-code : (bytes space : List ℕ) → (answered bytes space).code ≤ 7
unfolding answered refusal
answered-code bytes space =
    cond-elim (λ (o : Outcome). o.code ≤ 7) (unreadable bytes) (λ _. omega arith)
    (λ _. omega (arith, code-small (table_of bytes) (list_of bytes) space (holders_space (table_of bytes))))

-- what is refused has no calls
pub refused-none : (bytes space : List ℕ) → 0 < (answered bytes space).code → (answered bytes space).calls ≡ 0
unfolding answered entry refusal ran
refused-none bytes space =
    cond-elim (λ (o : Outcome). 0 < o.code → o.calls ≡ 0) (unreadable bytes) (λ _ _. refl)
    (λ _.
    cond-elim (λ (o : Outcome). 0 < o.code → o.calls ≡ 0)
    (eqb (entry_code (table_of bytes) (list_of bytes) (length space) (length (holders_space (table_of bytes)))) 0)
    (λ _ some. absurd (omega arith))
    (λ _ _. refl))

-- the answers of all calls are in the words that are left
pub answers-lent : (bytes space : List ℕ) → 3 * (answered bytes space).calls ≤ length (answered bytes space).answers
unfolding answered entry refusal ran
answers-lent bytes space =
    cond-elim (λ (o : Outcome). 3 * o.calls ≤ length o.answers) (unreadable bytes) (λ _. omega arith)
    (λ _. cond-elim (λ (o : Outcome). 3 * o.calls ≤ length o.answers)
    (eqb (entry_code t ws (length space) (length (holders_space t))) 0)
    (λ _. omega (arith, answers-length t (split ws), length-append (answers t (split ws)) (drop (3 * length (split ws)) space)))
    (λ _. omega arith))
  where
    t : List ℕ
    t = table_of bytes

    ws : List ℕ
    ws = list_of bytes

-- where the reading asks for nothing more, what follows makes no difference
pub nothing-follows : NothingFollows
unfolding report answered unreadable wanted
nothing-follows bytes more done = go (no_table bytes) refl
  where
    go : (b : Bool) → no_table bytes ≡ b → report (bytes ++ more) ≡ report bytes
    go true e =
        let long = no_more bytes e (simp e at done) in
        simp (e, no-table-more bytes more long.0 long.1)
    go false e =
        let w : Whole bytes = whole bytes e in
        let full : 4 * list_words_read ≤ length (after_table bytes) = omega (arith, simp e at done) in
        let fuller : 4 * list_words_read ≤ length (after_table bytes ++ more) =
        omega (arith, length-append (after_table bytes) more) in
        simp (
          e,
          whole-table (bytes ++ more) (whole-more bytes more w),
          after_table-more bytes more w,
          no-left-over (after_table bytes) full,
          no-left-over (after_table bytes ++ more) fuller,
          table_of-more bytes more w,
          list_of-more bytes more w full,
        )

-- a table and a list as words: they are what is run
list_of-words : (t ws : List ℕ) → TableWords t → AllWords ws → length ws ≤ longest_list → list_of (with_length t ++ bytes_of ws) ≡ ws
unfolding list_of
list_of-words t ws given words short =
    ap (λ l. take list_words_read (words_of l)) (given-rest t (bytes_of ws) given)
    ∙ ap (take list_words_read) (words_of-bytes_of ws words)
    ∙ take_all list_words_read ws (omega arith)

none-left-over : (ws : List ℕ) → left_over (bytes_of ws) ≡ false
unfolding left_over
none-left-over ws =
    let whole : length (bytes_of ws) % 4 ≡ 0 = omega (arith, length-bytes_of ws) in
    rw (eq-eqb _ _ whole) (and-false (ltb (length (bytes_of ws)) (4 * list_words_read)))

pub words-reported : EveryWordsReported
unfolding report answered unreadable
words-reported t ws given words short =
    simp (
      whole-table _ (given-whole t (bytes_of ws) given),
      given-rest t (bytes_of ws) given,
      none-left-over ws,
      given-table t (bytes_of ws) given,
      list_of-words t ws given words short,
    )

-- so what is printed for the bytes read is the whole input's report
pub prints : (bytes : List ℕ) (input_ended : Bool) {l : Lines} {answers : List ℕ} → Reads bytes input_ended
    → FirstLines (answered bytes answer_space) l → answers ≡ (answered bytes answer_space).answers → Prints bytes input_ended l answers
unfolding report outcome_lines
prints bytes input_ended {l} {answers} reads cursor left =
    let is : all_lines (calls_of l) (code_of l) answers ≡ report bytes = rw (cursor.calls, cursor.code, left) refl in
    record {
      start = cursor.line;
      few = rw cursor.calls (answered-few bytes answer_space);
      lent = rw (cursor.calls, left) (answers-lent bytes answer_space);
      read = is;
      whole = λ more follows. is ∙ whole input_ended reads.reason more follows;
    }
  where
    whole : (b : Bool) → b ≡ ltb 0 (wanted bytes) → (more : List ℕ) → Follows b more → report bytes ≡ report (bytes ++ more)
    whole true e more follows = rw (follows refl, append-nil)
    whole false e more follows = sym (nothing-follows bytes more (omega (arith, ltb-false 0 (wanted bytes) (sym e))))
