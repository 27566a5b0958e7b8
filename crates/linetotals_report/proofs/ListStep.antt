-- A stage at the lists, and the step by a list: what was counted is that of the lists which the bytes gave. Assumes nothing.
use Prim.Native.Nat.{ℕ, ◌+◌, ◌-◌, ◌*◌, ◌≤◌, ◌<◌}
use mathlib.Core.Path.{◌≡◌, refl, sym, ap, subst, ◌∙◌}
use mathlib.Core.List.{List, [], ◌∷◌, ◌++◌, append_assoc}
use native.Mathlib.Omega.{arith}
use lib.ListN.{length, take, drop, length-append, length-take, length-drop}
use lib.Seq.{length-take-le, take_at}
use borrow.Author.Tests.{le-ltb}
use Rattle.std.specs.Prelude.{Option, None, Some, Result, Ok, Err}
use Rattle.machine.specs.Table.{domains}
use Rattle.machine.specs.Check.{Accepted}
use Rattle.machine.specs.Call.{split}
use Rattle.machine.specs.Run.{run}
use Rattle.machine.specs.Entry.{Outcome, longest_list, Runs, ran}
use Rattle.machine.specs.Run as machine
use Rattle.machine.specs.Holders.{holders_of}
use Rattle.machine.proofs.Below.{words-length}
use Rattle.machine.proofs.Counts.{answers-length}
use Rattle.machine.proofs.Split.{split-few}
use Rattle.text.proofs.WriteLaws.{length-overwrite}
use Rattle.machine.proofs.Step.{run-accepted}
use Rattle.machine.proofs.Accepted.{accepted-counts}
use Rattle.machine.proofs.Promise.{entry-code, entry-ran, code-holders, holders-fit, promise-kept}
use Rattle.input_words.specs.Bytes.{words_of}
use Rattle.input_words.specs.TableInput.{table_of}
use Rattle.input_words.proofs.WordLaws.{length-words_of, take-words_of}
use Rattle.totals_theory.specs.Totals.{calls_of}
use Rattle.totals_theory.proofs.TotalsLaws.{one-run}
use Rattle.totals_add.specs.declared.Tally.{Tally}
use Rattle.totals_add.specs.Added.{added_if_run, ListAdded}
use Rattle.totals_add.specs.Tallied.{Tallied}
use Rattle.totals_add.proofs.TallyLaws.{every-tally-list-by-list}
use Rattle.linetotals_input.specs.Input.{most_lists, head_wanted, wanted}
use Rattle.linetotals_input.specs.Next.{list_refusal_code, next_of}
use Rattle.linetotals_input.specs.declared.ListRefusal.{ListRefusal}
use Rattle.linetotals_input.proofs.ListLoop as loop
use Rattle.linetotals_input.proofs.ListLoop.{AtHead, Going, GoesOn, goes_on, list-taken, list-short, wanted-now}
use Rattle.linetotals_run.specs.declared.Phase.{Phase}
use Rattle.linetotals_run.specs.declared.Phase.TheVariants.{TableLength, TableWords, FirstLength, ListWords, Over}
use Rattle.linetotals_run.specs.Stage.{wanted_at, in_phase}
use Rattle.linetotals_run.specs.Step.{State, at_stage, next_phase, head_read, tally_with, counted, list_ran, table_at, entered, list_whole, list_read}
use Rattle.linetotals_theory.specs.Sheet.{sheet}
use Rattle.linetotals_report.specs.Report.{stage_lines}
use Rattle.linetotals_report.specs.Claims.{Space}
use Rattle.linetotals_report.proofs.SheetLaws.{over-lines}
use Rattle.linetotals_report.proofs.InputLaws.{Known, same-known, wanted-behind, sheet-behind}

-- The bytes are those of a table and of lists after it, which were run and counted.
pub record Counted (bytes : List ℕ) (x : State) (lists : List (List ℕ)) (head read : List ℕ) : Type 0 where
  pub bytes_are : bytes ≡ head ++ read
  pub known : Known head x.stage
  pub count_is : x.stage.counts.count ≡ length lists
  pub tallied : Tallied (table_of head) lists x.stage.counts.tally (table_at x)

-- A list of n words follows.
pub record Listing (n : ℕ) (bytes : List ℕ) (x : State) : Type 0 where
  pub lists : List (List ℕ)
  pub head : List ℕ
  pub read : List ℕ
  pub counted : Counted bytes x lists head read
  pub going : Going read lists (most_lists - (length lists + 1)) n

-- ---- after the bytes before a list

pub record Headed (bytes hd : List ℕ) (left : ℕ) (p : Phase) (x : State) : Type 0 where
  pub over : (code : ℕ) → p ≡ Over code → stage_lines x.stage x.table ≡ sheet bytes
  pub listing : (n : ℕ) → p ≡ ListWords n → Listing n bytes x
  pub no_length : p ≡ TableLength → ⊥
  pub no_words : (n : ℕ) → p ≡ TableWords n → ⊥
  pub no_first : p ≡ FirstLength → ⊥
  pub asks : 0 < wanted_at x.stage → wanted bytes ≡ wanted_at x.stage
  pub exact : length hd ≡ head_wanted left → wanted bytes ≡ wanted_at x.stage

module _ {bytes : List ℕ} {x : State} {lists : List (List ℕ)} {head read hd : List ℕ} {left : ℕ} (y : Counted bytes x lists head read)
    (z : AtHead read lists left hd) where
  ended : (code : ℕ) → loop.Over read lists code (head_wanted left - length hd) → Headed bytes hd left (Over code) (at_stage x (in_phase (Over code) x.stage))
  ended code over =
      record {
        over =
            λ c e.
            over-lines (table_of head) lists x.stage x.table code y.known.accepted y.known.endpoints_are y.known.start_is y.count_is y.tallied
            ∙ sym (ap sheet y.bytes_are ∙ sheet-behind y.known read ∙ rw (over.all_lists, over.by_code));
        listing = λ n e. cc;
        no_length = λ e. cc;
        no_words = λ n e. cc;
        no_first = λ e. cc;
        asks = λ h. absurd (omega arith);
        exact = λ h. ap wanted y.bytes_are ∙ wanted-behind y.known read ∙ over.missing ∙ omega arith;
      }

  after : (next : Result (Option ℕ) ListRefusal) → GoesOn read lists left (head_wanted left - length hd) next
      → Headed bytes hd left (next_phase next) (at_stage x (in_phase (next_phase next) x.stage))
  after (Ok None) over = ended 0 over
  after (Err r) over = ended (list_refusal_code r) over
  after (Ok (Some n)) going =
      let same : wanted bytes ≡ 4 * n + head_wanted (left - 1) = ap wanted y.bytes_are ∙ wanted-behind y.known read ∙ wanted-now going [] (omega arith) in
      let place : left - 1 ≡ most_lists - (x.stage.counts.count + 1) = omega (arith, y.count_is, z.count) in
      let next : left - 1 ≡ most_lists - (length lists + 1) = omega (arith, y.count_is, z.count) in
      record {
        over = λ c e. cc;
        listing =
            λ m e.
            let is : n ≡ m = cc in
            record {
              lists = lists;
              head = head;
              read = read;
              counted = record { bytes_are = y.bytes_are; known = same-known y.known; count_is = y.count_is; tallied = y.tallied };
              going = rw (is, next) at going;
            };
        no_length = λ e. cc;
        no_words = λ m e. cc;
        no_first = λ e. cc;
        asks = λ h. same ∙ ap (λ (l : ℕ). 4 * n + head_wanted l) place;
        exact = λ h. same ∙ ap (λ (l : ℕ). 4 * n + head_wanted l) place;
      }

  pub headed : left ≡ most_lists - x.stage.counts.count → Headed bytes hd left (head_read x.stage hd).phase (at_stage x (head_read x.stage hd))
  unfolding head_read
  headed is = rw (← is) (after (next_of left hd) (goes_on z (next_of left hd) refl))

-- ---- after a list

module _ {n : ℕ} {bytes : List ℕ} {x : State} (l : Listing n bytes x) (space : Space x) (part : List ℕ)
    (asked : length part ≤ 4 * n + head_wanted (most_lists - (length l.lists + 1))) where
  -- a list that is cut short
  pub cut-lines : length part < 4 * n → stage_lines (in_phase (Over 7) x.stage) x.table ≡ sheet (bytes ++ part)
  cut-lines h =
      let y = l.counted in
      let over = list-short l.going part asked h in
      over-lines (table_of l.head) l.lists x.stage x.table 7 y.known.accepted y.known.endpoints_are y.known.start_is y.count_is y.tallied
      ∙ sym
      (ap (λ (u : List ℕ). sheet (u ++ part)) y.bytes_are
      ∙ ap sheet (append_assoc l.head l.read part)
      ∙ sheet-behind y.known (l.read ++ part)
      ∙ rw (over.all_lists, over.by_code))

  -- the table from which it runs is still accepted
  t : List ℕ
  t = table_of l.head

  ws : List ℕ
  ws = words_of (take (4 * n) part)

  is-run : table_at x ≡ run t (calls_of l.lists)
  unfolding t
  is-run = l.counted.tallied.table_is ∙ one-run (table_of l.head) l.lists

  still-accepted : Accepted (table_at x)
  unfolding t
  still-accepted = rw is-run (run-accepted (table_of l.head) (calls_of l.lists) l.counted.known.accepted).accepted

  table-size : length (table_at x) ≡ x.stage.counts.words
  unfolding t
  table-size =
      ap length is-run
      ∙ (run-accepted (table_of l.head) (calls_of l.lists) l.counted.known.accepted).frame.size
      ∙ sym l.counted.known.words

  short : length ws ≤ longest_list
  unfolding ws
  short = omega (arith, length-words_of (take (4 * n) part), length-take (4 * n) part, l.going.short)

  lent : length (take (domains (table_at x)) x.holders) ≡ domains (table_at x)
  lent = length-take-le (domains (table_at x)) x.holders (omega (arith, space.holders, (accepted-counts (table_at x) still-accepted).1))

  answers-fit : 3 * length (split ws) ≤ length x.answers
  answers-fit = omega (arith, space.answers, split-few ws, short)

  runs : Runs (table_at x) ws (length x.answers) (length (take (domains (table_at x)) x.holders))
  runs = code-holders (table_at x) ws (length x.answers) (length (take (domains (table_at x)) x.holders)) short still-accepted answers-fit ∙ holders-fit (table_at x) _ lent

  no_code : (entered x ws).code ≡ 0
  no_code = entry-code (table_at x) ws x.answers (take (domains (table_at x)) x.holders) ∙ runs

  -- what it leaves
  o : Outcome
  o = entered x ws

  tally' : Tally
  tally' = tally_with (table_at x) ws x.stage.counts.tally

  added : ListAdded (table_at x) ws x.answers (take (domains (table_at x)) x.holders) o x.stage.counts.tally tally'
  unfolding added_if_run tally_with o tally'
  added =
      record {
        run = promise-kept (table_at x) ws x.answers (take (domains (table_at x)) x.holders);
        sent_added = rw no_code refl;
        received_added = rw no_code refl;
        lost_added = rw no_code refl;
      }

  tallied' : Tallied t (l.lists ++ (ws ∷ [])) tally' o.table
  unfolding t o
  tallied' =
      (every-tally-list-by-list (table_of l.head)).goes_on _ _ _ _ _ _ _ _ l.counted.known.accepted l.counted.tallied (omega (arith, l.going.count)) added no_code

  left-table : o.table ≡ run (table_at x) (split ws)
  unfolding o ran
  left-table = ap (λ (u : Outcome). u.table) (entry-ran (table_at x) ws x.answers (take (domains (table_at x)) x.holders) runs)

  left-size : length o.table ≡ x.stage.counts.words
  left-size = ap length left-table ∙ (run-accepted (table_at x) (split ws) still-accepted).frame.size ∙ table-size

  -- the state with the list counted, before the bytes after it are looked at
  state' : State
  state' =
      record {
        stage = counted x.stage tally';
        table = o.table ++ drop x.stage.counts.words x.table;
        list = (list_whole n x part).list;
        answers = o.answers;
        holders = (list_whole n x part).holders;
      }

  module _ (all : 4 * n ≤ length part) where
    counted' : Counted (bytes ++ part) state' (l.lists ++ (take n (words_of part) ∷ [])) l.head (l.read ++ part)
    unfolding state' counted t ws
    counted' =
        let y = l.counted in
        let same : ws ≡ take n (words_of part) = take-words_of n part in
        record {
          bytes_are = ap (λ (u : List ℕ). u ++ part) y.bytes_are ∙ append_assoc l.head l.read part;
          known = same-known y.known;
          count_is = omega (arith, y.count_is, length-append l.lists (take n (words_of part) ∷ []));
          tallied = rw (take_at o.table (drop x.stage.counts.words x.table) x.stage.counts.words left-size) (rw same at tallied');
        }

    is_state : list_read n x part ≡ at_stage state' (head_read (counted x.stage tally') (drop (4 * n) part))
    unfolding list_read list_whole list_ran state' o tally' ws
    is_state = rw (le-ltb (length part) (4 * n) all, no_code)

    pub list-headed : Headed (bytes ++ part) (drop (4 * n) part) (most_lists - (length l.lists + 1)) (list_read n x part).stage.phase (list_read n x part)
    unfolding counted state'
    list-headed =
        subst
        (λ (y : State). Headed (bytes ++ part) (drop (4 * n) part) (most_lists - (length l.lists + 1)) y.stage.phase y)
        (sym is_state)
        (headed counted' (list-taken l.going part asked all) (omega (arith, l.counted.count_is)))

    -- the space that is lent stays
    pub list-space : Space (list_read n x part)
    unfolding list_read list_whole ran ws o holders_of
    list-space =
        let left = entry-ran (table_at x) ws x.answers (take (domains (table_at x)) x.holders) runs in
        let kept : length o.holders ≡ domains (table_at x) =
        ap (λ (u : Outcome). length u.holders) left
        ∙ words-length _ _
        ∙ (run-accepted (table_at x) (split ws) still-accepted).frame.same_domains in
        let answered : length o.answers ≡ 3 * length (split ws) + (length x.answers - 3 * length (split ws)) =
        ap (λ (u : Outcome). length u.answers) left
        ∙ length-append (machine.answers (table_at x) (split ws)) (drop (3 * length (split ws)) x.answers)
        ∙ omega (arith, answers-length (table_at x) (split ws), length-drop (3 * length (split ws)) x.answers) in
        rw (le-ltb (length part) (4 * n) all)
        (record {
          table = omega (arith, space.table, length-append o.table (drop x.stage.counts.words x.table), left-size, length-drop x.stage.counts.words x.table);
          list = omega (arith, space.list, length-overwrite 0 (words_of (take (4 * n) part)) x.list);
          answers = omega (arith, space.answers, answered);
          holders = omega (arith, space.holders, kept, length-append o.holders (drop (domains (table_at x)) x.holders), length-drop (domains (table_at x)) x.holders);
        })
