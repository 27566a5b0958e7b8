-- What is in the words that are lent for the answers makes no difference to the lines, where they are enough. Assumes nothing.
use Prim.Native.Nat.{ℕ, zero, suc, ◌+◌, ◌*◌, ◌≤◌}
use mathlib.Core.Path.{◌≡◌, refl, sym, ap, ◌∙◌}
use mathlib.Core.Bool.{Bool, true, false, cond}
use mathlib.Core.List.{List, [], ◌++◌}
use borrow.Author.Tests.{le-ltb, ltb-false}
use native.Mathlib.Omega.{arith}
use lib.Dec.{eqb, ltb}
use lib.ListN.{length, drop, length-replicate, get_or-append}
use Rattle.machine.specs.Call.{split}
use Rattle.machine.specs.Run.{answers}
use Rattle.machine.specs.Check.{table_code}
use Rattle.machine.specs.Entry.{longest_list, space_code, entry_code, refusal, ran, entry}
use Rattle.machine.proofs.Counts.{answers-length}
use Rattle.machine.proofs.Split.{split-few}
use Rattle.input_words.specs.TableInput.{table_of}
use Rattle.linerun_input.specs.Input.{list_of, unreadable}
use Rattle.linerun_text.specs.Lines.{first_line}
use Rattle.linerun_report.specs.Lines.{call_lines, all_lines}
use Rattle.linerun_report.specs.Report.{answer_space, holders_space, outcome_lines, answered, report, EverySpace}

-- lines of calls whose answers come first are made of these alone
first_alone : (k : ℕ) (ws more : List ℕ) → 3 * k ≤ length ws → call_lines (ws ++ more) k ≡ call_lines ws k
unfolding call_lines
first_alone zero ws more h = refl
first_alone (suc k) ws more h =
    let w = get_or-append ws more 0 (3 * k) (omega arith) in
    let x = get_or-append ws more 0 (3 * k + 1) (omega arith) in
    let y = get_or-append ws more 0 (3 * k + 2) (omega arith) in
    rw (first_alone k ws more (omega arith), w, x, y) refl

-- enough words give the same code
same_code : (t ws : List ℕ) (size other lent : ℕ) → 3 * longest_list ≤ size → 3 * longest_list ≤ other
    → entry_code t ws size lent ≡ entry_code t ws other lent
unfolding entry_code space_code
same_code t ws size other lent h k = go (ltb longest_list (length ws)) refl
  where
    go : (b : Bool) → ltb longest_list (length ws) ≡ b
        → cond b 1 (cond (eqb (table_code t) 0) (space_code t ws size lent) (table_code t))
        ≡ cond b 1 (cond (eqb (table_code t) 0) (space_code t ws other lent) (table_code t))
    go true e = refl
    go false e =
        let few : 3 * length (split ws) ≤ 3 * longest_list = omega (arith, split-few ws, ltb-false longest_list (length ws) e) in
        rw (le-ltb size (3 * length (split ws)) (omega (arith, few)), le-ltb other (3 * length (split ws)) (omega (arith, few))) refl

-- the lines of a run on any words that are lent
ran-lines : (t ws space : List ℕ)
    → outcome_lines (ran t ws space) ≡ first_line (length (split ws)) 0 ++ call_lines (answers t (split ws)) (length (split ws))
unfolding ran outcome_lines all_lines
ran-lines t ws space =
    ap (λ (l : List ℕ). first_line (length (split ws)) 0 ++ l)
    (first_alone (length (split ws)) (answers t (split ws)) (drop (3 * length (split ws)) space)
    (omega (arith, answers-length t (split ws))))

entry-lines : (t ws space holders : List ℕ) → 3 * longest_list ≤ length space
    → outcome_lines (entry t ws space holders) ≡ outcome_lines (entry t ws answer_space holders)
unfolding entry ran refusal outcome_lines all_lines call_lines answer_space
entry-lines t ws space holders h =
    let enough : 3 * longest_list ≤ length answer_space = omega (arith, length-replicate {A = ℕ} (3 * longest_list) 0) in
    let code = entry_code t ws (length answer_space) (length holders) in
    rw (same_code t ws (length space) (length answer_space) (length holders) h enough) (go (eqb code 0) code)
  where
    go : (b : Bool) (n : ℕ) → outcome_lines (cond b (ran t ws space) (refusal n t space holders))
        ≡ outcome_lines (cond b (ran t ws answer_space) (refusal n t answer_space holders))
    go true n = ran-lines t ws space ∙ sym (ran-lines t ws answer_space)
    go false n = refl

pub every-space : EverySpace
unfolding report answered refusal outcome_lines all_lines call_lines
every-space bytes space h = go (unreadable bytes)
  where
    t : List ℕ
    t = table_of bytes

    go : (b : Bool) → outcome_lines (cond b (refusal 7 [] space []) (entry t (list_of bytes) space (holders_space t)))
        ≡ outcome_lines (cond b (refusal 7 [] answer_space []) (entry t (list_of bytes) answer_space (holders_space t)))
    go true = refl
    go false = entry-lines t (list_of bytes) space (holders_space t) h
