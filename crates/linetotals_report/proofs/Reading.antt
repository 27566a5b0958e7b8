-- Parts of the lengths that were wanted, in order, give the sheet of all of them (specs/Claims: EveryReading): step by step,
-- what a stage knows holds of the bytes so far. Assumes nothing.
use Prim.Native.Nat.{ℕ, ◌+◌, ◌-◌, ◌*◌, ◌≤◌, ◌<◌}
use mathlib.Core.Path.{◌≡◌, refl, sym, ap, ◌∙◌}
use mathlib.Core.Bool.{Bool, true, false}
use mathlib.Core.List.{List, [], ◌∷◌, ◌++◌, append-nil, append_assoc}
use native.Mathlib.Decide.{dec_lt}
use native.Mathlib.Omega.{arith}
use borrow.Author.Tests.{eq-eqb, ne_eqb, eqb-true, eqb-false, lt-ltb, le-ltb}
use lib.Dec.{eqb}
use lib.ListN.{length, take, drop, length-append, length-take, length-drop}
use lib.Seq.{drop_at}
use Rattle.machine.specs.Table.{endpoints}
use Rattle.machine.specs.Check.{table_code}
use Rattle.machine.proofs.Everything.{everything}
use Rattle.text.specs.Write.{overwrite}
use Rattle.text.proofs.WriteLaws.{length-overwrite, fills-front}
use Rattle.input_words.specs.Bytes.{word_at, words_of}
use Rattle.input_words.specs.TableInput.{longest_table, no_table, table_of, table_wanted}
use Rattle.input_words.proofs.WordLaws.{length-words_of, take-words_of, word_at-append}
use Rattle.input_words.proofs.TableLaws.{Whole, whole-table}
use Rattle.input_words.proofs.Needed.{needed-more}
use Rattle.totals_add.proofs.TallyLaws.{every-tally-list-by-list}
use Rattle.linetotals_text.specs.Lines.{last_line}
use Rattle.linetotals_input.specs.Input.{most_lists, head_wanted, stopped, Lists, wanted, Needed}
use Rattle.linetotals_input.proofs.ListLaws.{from-none, head_few}
use Rattle.linetotals_input.proofs.ListLoop.{at-start}
use Rattle.linetotals_run.specs.declared.Phase.{Phase}
use Rattle.linetotals_run.specs.declared.Phase.TheVariants.{TableLength, TableWords, FirstLength, ListWords, Over}
use Rattle.linetotals_run.specs.declared.Stage.{Stage}
use Rattle.linetotals_run.specs.Stage.{phase_wanted, wanted_at, in_phase}
use Rattle.linetotals_run.specs.Step.{State, at_stage, length_read, table_checked, table_read, table_stored, waiting_at, head_read, list_read, phase_read, stepped}
use Rattle.linetotals_theory.specs.Sheet.{table_sheet, sheet}
use Rattle.linetotals_report.specs.Report.{stage_lines}
use Rattle.linetotals_report.specs.Claims.{first_state, Space, read_on, InOrder, AllCame, joined, Reading, EveryReading}
use Rattle.linetotals_report.proofs.SheetLaws.{no_lines}
use Rattle.linetotals_report.proofs.InputLaws.{still, Known, wanted-behind, sheet-none}
use Rattle.linetotals_report.proofs.ListStep.{Counted, Listing, Headed, headed, cut-lines, list-headed, list-space}

-- no table is known yet
pub record Fresh (s : Stage) : Type 0 where
  pub no_endpoints : s.counts.endpoints ≡ 0
  pub no_lists : s.counts.count ≡ 0

-- the table's n words follow
pub record Follows (n : ℕ) (bytes : List ℕ) (x : State) : Type 0 where
  pub fresh : Fresh x.stage
  pub four : length bytes ≡ 4
  pub word : word_at bytes 0 ≡ n
  pub some : 0 < n
  pub few : n ≤ longest_table

-- what is known in each phase of the bytes so far
abbrev pub AtPhase : Phase → List ℕ → State → Type 0
AtPhase TableLength bytes x = (bytes ≡ []) × Fresh x.stage
AtPhase (TableWords n) bytes x = Follows n bytes x
AtPhase FirstLength bytes x = Counted bytes x [] bytes []
AtPhase (ListWords n) bytes x = Listing n bytes x
AtPhase (Over code) bytes x = stage_lines x.stage x.table ≡ sheet bytes

-- the same of a state: it has space, and wants as many bytes as the definition says; `full` is that all came that was wanted
pub record Represents (bytes : List ℕ) (full : Type 0) (x : State) : Type 0 where
  pub space : Space x
  pub at : AtPhase x.stage.phase bytes x
  pub asks : 0 < wanted_at x.stage → wanted bytes ≡ wanted_at x.stage
  pub exact : full → wanted bytes ≡ wanted_at x.stage

from-headed : {bytes hd : List ℕ} {left : ℕ} {x : State} (p : Phase) → Headed bytes hd left p x → AtPhase p bytes x
from-headed TableLength h = absurd (h.no_length refl)
from-headed (TableWords n) h = absurd (h.no_words n refl)
from-headed FirstLength h = absurd (h.no_first refl)
from-headed (ListWords n) h = h.listing n refl
from-headed (Over code) h = h.over code refl

-- another stage has the same space
same-space : {x : State} {s : Stage} → Space x → Space (at_stage x s)
same-space space = record { table = space.table; list = space.list; answers = space.answers; holders = space.holders }

-- ---- the table

-- an input without a table, by its length word or by its length
module _ (x : State) (bytes : List ℕ) (fresh : Fresh x.stage) (space : Space x) where
  none : (full : Type 0) → no_table bytes ≡ true → (full → table_wanted bytes ≡ 0) → Represents bytes full (at_stage x (in_phase (Over 7) x.stage))
  unfolding wanted
  none full e done =
      record {
        space = same-space space;
        at = no_lines x.stage x.table 7 fresh.no_endpoints fresh.no_lists ∙ sym (sheet-none bytes e);
        asks = λ h. absurd (omega arith);
        exact = λ f. simp e (done f);
      }

  -- a refused table
  refused : (full : Type 0) (table : List ℕ) (code : ℕ) → longest_table ≤ length table → Whole bytes → table_code (table_of bytes) ≡ code → (code ≡ 0 → ⊥)
      → Represents bytes full (record { stage = in_phase (Over code) x.stage; table = table; list = x.list; answers = x.answers; holders = x.holders })
  unfolding wanted sheet table_sheet
  refused full table code long w is n =
      let e = whole-table bytes w in
      let f = ne_eqb (table_code (table_of bytes)) 0 (λ z. n (sym is ∙ z)) in
      record {
        space = record { table = long; list = space.list; answers = space.answers; holders = space.holders };
        at = no_lines x.stage table code fresh.no_endpoints fresh.no_lists ∙ simp (e, f) (ap (last_line 0) (sym is));
        asks = λ h. absurd (omega arith);
        exact = λ g. simp (e, f);
      }

empty_code : table_code [] ≡ 2
unfolding everything
empty_code = refl

length-step : (x : State) (part : List ℕ) → Fresh x.stage → Space x → length part ≤ 4 → Represents part (length part ≡ 4) (at_stage x (length_read x.stage part))
unfolding length_read no_table table_wanted wanted table_of
length-step x part fresh space few = go (dec_lt (length part) 4) (dec_lt longest_table (word_at part 0)) (dec_lt 0 (word_at part 0))
  where
    go : Dec (length part < 4) → Dec (longest_table < word_at part 0) → Dec (0 < word_at part 0) → Represents part (length part ≡ 4) (at_stage x (length_read x.stage part))
    go (yes h) d c = rw (lt-ltb (length part) 4 h) (none x part fresh space (length part ≡ 4) (simp (lt-ltb (length part) 4 h)) (λ f. absurd (omega arith)))
    go (no h) (yes l) c =
        let word = le-ltb (length part) 4 (omega arith) in
        let long = lt-ltb longest_table (word_at part 0) l in
        rw (word, long) (none x part fresh space (length part ≡ 4) (simp (word, long)) (λ f. simp (word, long)))
    go (no h) (no l) (yes s) =
        let word = le-ltb (length part) 4 (omega arith) in
        let fits = le-ltb longest_table (word_at part 0) (omega arith) in
        let more = lt-ltb (length part) (4 + 4 * word_at part 0) (omega arith) in
        let same : wanted part ≡ 4 * word_at part 0 = simp (word, fits, more) (omega arith) in
        rw (word, fits, ne_eqb (word_at part 0) 0 (omega arith))
        (record {
          space = same-space space;
          at =
              record {
                fresh = record { no_endpoints = fresh.no_endpoints; no_lists = fresh.no_lists };
                four = omega arith;
                word = refl;
                some = s;
                few = omega arith;
              };
          asks = λ _. same;
          exact = λ _. same;
        })
    go (no h) (no l) (no s) =
        let word = le-ltb (length part) 4 (omega arith) in
        let fits = le-ltb longest_table (word_at part 0) (omega arith) in
        let zero : word_at part 0 ≡ 0 = omega arith in
        let code : table_code (table_of part) ≡ 2 = ap (λ (k : ℕ). table_code (take k (words_of (drop 4 part)))) zero ∙ empty_code in
        rw (word, fits, eq-eqb (word_at part 0) 0 zero)
        (refused x part fresh space (length part ≡ 4) x.table 2 space.table (record { word = omega arith; short = omega arith; all = omega arith }) code (λ e. absurd (omega arith)))

-- the table's words
module _ (x : State) (n : ℕ) (bytes part : List ℕ) (f : Follows n bytes x) (space : Space x) (few : length part ≤ 4 * n) where
  long : length (bytes ++ part) ≡ 4 + length part
  long = omega (arith, length-append bytes part, f.four)

  same_word : word_at (bytes ++ part) 0 ≡ n
  same_word = word_at-append bytes part 0 (omega (arith, f.four)) ∙ f.word

  cut-none : length part < 4 * n → no_table (bytes ++ part) ≡ true
  unfolding no_table
  cut-none h =
      simp (
        le-ltb (length (bytes ++ part)) 4 (omega (arith, long)),
        le-ltb longest_table (word_at (bytes ++ part) 0) (omega (arith, same_word, f.few)),
        lt-ltb (length (bytes ++ part)) (4 + 4 * word_at (bytes ++ part) 0) (omega (arith, long, same_word)),
      )

  module _ (all : 4 * n ≤ length part) where
    is-whole : Whole (bytes ++ part)
    is-whole = record { word = omega (arith, long); short = omega (arith, same_word, f.few); all = omega (arith, long, same_word) }

    table_is : table_of (bytes ++ part) ≡ words_of (take (4 * n) part)
    unfolding table_of
    table_is =
        ap (λ (k : ℕ). take k (words_of (drop 4 (bytes ++ part)))) same_word
        ∙ ap (λ (u : List ℕ). take n (words_of u)) (drop_at bytes part 4 f.four)
        ∙ sym (take-words_of n part)

    stored : longest_table ≤ length (overwrite 0 (words_of (take (4 * n) part)) x.table)
    stored = omega (arith, space.table, length-overwrite 0 (words_of (take (4 * n) part)) x.table)

    front : take (length (words_of (take (4 * n) part))) (overwrite 0 (words_of (take (4 * n) part)) x.table) ≡ words_of (take (4 * n) part)
    front =
        let t = words_of (take (4 * n) part) in
        let fits : length t ≤ length x.table = omega (arith, space.table, f.few, length-words_of (take (4 * n) part), length-take (4 * n) part) in
        (fills-front {items = t} {buffer = x.table} {count = length t} fits (record { count-is = omega arith; items-are = refl })).1

    known-table : (s : Stage) → table_code (words_of (take (4 * n) part)) ≡ 0 → s.counts.words ≡ length (words_of (take (4 * n) part))
        → s.counts.endpoints ≡ endpoints (words_of (take (4 * n) part)) → s.counts.start ≡ waiting_at (words_of (take (4 * n) part)) → Known (bytes ++ part) s
    known-table s code words ends starts =
        record {
          is_whole = is-whole;
          ends = omega (arith, long, same_word, few, all);
          accepted = ap table_code table_is ∙ code;
          words = words ∙ ap length (sym table_is);
          endpoints_are = ends ∙ ap endpoints (sym table_is);
          start_is = starts ∙ ap waiting_at (sym table_is);
        }

    first-wanted : {s : Stage} → Known (bytes ++ part) s → wanted (bytes ++ part) ≡ 4
    unfolding stopped head_wanted
    first-wanted k =
        ap wanted (sym (append-nil (bytes ++ part))) ∙ wanted-behind k [] ∙ ap (λ (y : Lists). y.wanted) (from-none most_lists)

    checked : (b : Bool) → eqb (table_code (words_of (take (4 * n) part))) 0 ≡ b
        → Represents (bytes ++ part) (length part ≡ 4 * n) (record { stage = table_checked x.stage (words_of (take (4 * n) part)); table = overwrite 0 (words_of (take (4 * n) part)) x.table; list = x.list; answers = x.answers; holders = x.holders })
    unfolding table_checked
    checked true e =
        let k = known-table (table_checked x.stage (words_of (take (4 * n) part))) (eqb-true _ _ e) (simp e) (simp e) (simp e) in
        rw e
        (record {
          space = record { table = stored; list = space.list; answers = space.answers; holders = space.holders };
          at =
              record {
                bytes_are = sym (append-nil (bytes ++ part));
                known = record { is_whole = k.is_whole; ends = k.ends; accepted = k.accepted; words = ap length (sym table_is); endpoints_are = ap endpoints (sym table_is); start_is = ap waiting_at (sym table_is) };
                count_is = refl;
                tallied = rw (front, ← table_is) (every-tally-list-by-list (table_of (bytes ++ part))).begins;
              };
          asks = λ _. first-wanted k;
          exact = λ _. first-wanted k;
        })
    checked false e =
        let code = table_code (words_of (take (4 * n) part)) in
        rw e
        (refused x (bytes ++ part) f.fresh space (length part ≡ 4 * n) (overwrite 0 (words_of (take (4 * n) part)) x.table) code stored is-whole (ap table_code table_is) (eqb-false _ _ e))

  table_step : Represents (bytes ++ part) (length part ≡ 4 * n) (phase_read (TableWords n) x part)
  unfolding table_read table_stored
  table_step = go (dec_lt (length part) (4 * n))
    where
      go : Dec (length part < 4 * n) → Represents (bytes ++ part) (length part ≡ 4 * n) (phase_read (TableWords n) x part)
      go (yes h) = rw (lt-ltb (length part) (4 * n) h) (none x (bytes ++ part) f.fresh space (length part ≡ 4 * n) (cut-none h) (λ e. absurd (omega arith)))
      go (no h) =
          let all : 4 * n ≤ length part = omega arith in
          rw (le-ltb (length part) (4 * n) all) (checked all (eqb (table_code (words_of (take (4 * n) part))) 0) refl)

-- ---- any stage

first_step : (x : State) (bytes part : List ℕ) → Counted bytes x [] bytes [] → Space x → length part ≤ 4 → Represents (bytes ++ part) (length part ≡ 4) (phase_read FirstLength x part)
unfolding head_wanted
first_step x bytes part y space few =
    let z = at-start part few in
    let y' : Counted (bytes ++ part) x [] bytes part =
    record { bytes_are = refl; known = y.known; count_is = y.count_is; tallied = y.tallied } in
    let h = headed y' z (omega (arith, y.count_is)) in
    record {
      space = same-space space;
      at = from-headed (head_read x.stage part).phase h;
      asks = h.asks;
      exact = h.exact;
    }

cut_step : (x : State) (n : ℕ) (bytes part : List ℕ) (l : Listing n bytes x) → Space x → (asked : length part ≤ 4 * n + head_wanted (most_lists - (length l.lists + 1)))
    → length part < 4 * n → Represents (bytes ++ part) (length part ≡ 4 * n + head_wanted (most_lists - (x.stage.counts.count + 1))) (list_read n x part)
unfolding list_read
cut_step x n bytes part l space asked h =
    rw (lt-ltb (length part) (4 * n) h)
    (record {
      space = same-space space;
      at = cut-lines l space part asked h;
      asks = λ g. absurd (omega arith);
      exact = λ e. absurd (omega arith);
    })

list-step : (x : State) (n : ℕ) (bytes part : List ℕ) → Listing n bytes x → Space x → length part ≤ 4 * n + head_wanted (most_lists - (x.stage.counts.count + 1))
    → Represents (bytes ++ part) (length part ≡ 4 * n + head_wanted (most_lists - (x.stage.counts.count + 1))) (list_read n x part)
list-step x n bytes part l space few = go (dec_lt (length part) (4 * n))
  where
    asked : length part ≤ 4 * n + head_wanted (most_lists - (length l.lists + 1))
    asked = rw l.counted.count_is at few

    go : Dec (length part < 4 * n) → Represents (bytes ++ part) (length part ≡ 4 * n + head_wanted (most_lists - (x.stage.counts.count + 1))) (list_read n x part)
    go (yes h) = cut_step x n bytes part l space asked h
    go (no h) =
        let all : 4 * n ≤ length part = omega arith in
        let y = list-headed l space part asked all in
        record {
          space = list-space l space part asked all;
          at = from-headed (list_read n x part).stage.phase y;
          asks = y.asks;
          exact = λ e. y.exact (omega (arith, length-drop (4 * n) part, rw l.counted.count_is at e));
        }

pub step : (x : State) (bytes part : List ℕ) (full : Type 0) → Represents bytes full x → 0 < wanted_at x.stage → length part ≤ wanted_at x.stage
    → Represents (bytes ++ part) (length part ≡ wanted_at x.stage) (stepped x part)
unfolding stepped
step x bytes part full s some few = go x.stage.phase s.at some few
  where
    go : (p : Phase) → AtPhase p bytes x → 0 < phase_wanted p x.stage.counts.count → length part ≤ phase_wanted p x.stage.counts.count
        → Represents (bytes ++ part) (length part ≡ phase_wanted p x.stage.counts.count) (phase_read p x part)
    go TableLength at some few = rw at.0 (length-step x part at.1 s.space few)
    go (TableWords n) at some few = table_step x n bytes part at s.space few
    go FirstLength at some few = first_step x bytes part at s.space few
    go (ListWords n) at some few = list-step x n bytes part at s.space few
    go (Over code) at some few = absurd (omega arith)

-- ---- all the parts

-- where nothing more is wanted, the reading is over
over-of : (p : Phase) (bytes : List ℕ) (x : State) → phase_wanted p x.stage.counts.count ≡ 0 → AtPhase p bytes x → stage_lines x.stage x.table ≡ sheet bytes
over-of TableLength bytes x e at = absurd (omega arith)
over-of (TableWords n) bytes x e at = absurd (omega (arith, at.some))
over-of FirstLength bytes x e at = absurd (omega arith)
over-of (ListWords n) bytes x e at = absurd (omega (arith, head_few (most_lists - (x.stage.counts.count + 1))))
over-of (Over code) bytes x e at = at

reading : (x : State) (bytes : List ℕ) (full : Type 0) → Represents bytes full x → Needed bytes → (parts : List (List ℕ)) → InOrder x parts
    → Reading (bytes ++ joined parts) (full × AllCame x parts) (read_on x parts)
unfolding InOrder AllCame joined read_on
reading x bytes full s needed [] o =
    rw append-nil (record { needed = needed; sheet_is = λ e. over-of x.stage.phase bytes x e s.at; as_wanted = λ f. s.exact f.0 })
reading x bytes full s needed (part ∷ parts) o =
    let next = step x bytes part full s o.0 o.1 in
    let more = needed-more wanted still bytes part needed (omega (arith, o.1, s.asks o.0)) in
    let r = reading (stepped x part) (bytes ++ part) (length part ≡ wanted_at x.stage) next more parts o.2 in
    rw (sym (append_assoc bytes part (joined parts)))
    (record { needed = r.needed; sheet_is = r.sheet_is; as_wanted = λ f. r.as_wanted f.1 })

pub first-represents : (table list answers holders : List ℕ) → Space (first_state table list answers holders) → Represents [] (Unit {0}) (first_state table list answers holders)
unfolding wanted no_table table_wanted
first-represents table list answers holders space =
    record { space = space; at = (refl, record { no_endpoints = refl; no_lists = refl }); asks = λ _. refl; exact = λ _. refl }

pub every-reading : EveryReading
every-reading table list answers holders parts space o =
    let r = reading (first_state table list answers holders) [] (Unit {0}) (first-represents table list answers holders space) (λ k l. absurd (omega arith)) parts o in
    record { needed = r.needed; sheet_is = r.sheet_is; as_wanted = λ all. r.as_wanted (tt, all) }
