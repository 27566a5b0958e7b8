-- A loop that takes one part after another: each stage that it reaches wants no more than there is space for, takes its own reading,
-- and is nearer to the end. Assumes nothing.
use Prim.Native.Nat.{ℕ, ◌+◌, ◌-◌, ◌*◌, ◌≤◌, ◌<◌}
use mathlib.Core.Path.{◌≡◌, refl, sym, ap, ap₂, ◌∙◌}
use mathlib.Core.Bool.{true}
use mathlib.Core.List.{List, [], ◌∷◌, ◌++◌}
use native.Mathlib.Omega.{arith}
use borrow.Author.Tests.{eq-eqb, lt-ltb, le-leb}
use lib.Dec.{eqb, ltb}
use lib.ListN.{length, take, drop, length-take}
use Rattle.machine.proofs.Bools.{and_intro, cond-elim}
use Rattle.machine.specs.Check.{table_code}
use Rattle.input_words.specs.Bytes.{word_at, words_of}
use Rattle.input_words.specs.TableInput.{longest_table}
use Rattle.input_words.proofs.TableLaws.{length-table_of}
use Rattle.linetotals_input.specs.Input.{most_lists}
use Rattle.std.specs.Prelude.{Option, None, Some, Result, Ok, Err}
use Rattle.linetotals_input.specs.Next.{next_of}
use Rattle.linetotals_input.specs.declared.ListRefusal.{ListRefusal}
use Rattle.linetotals_input.proofs.ListLaws.{head_few}
use Rattle.linetotals_run.specs.declared.Phase.{Phase}
use Rattle.linetotals_run.specs.declared.Phase.TheVariants.{TableLength, TableWords, FirstLength, ListWords, Over}
use Rattle.linetotals_run.specs.declared.Stage.{Stage}
use Rattle.linetotals_run.specs.Stage.{phase_wanted, wanted_at}
use Rattle.linetotals_run.specs.Step.{State, length_read, table_checked, table_read, next_phase, head_read, tally_with, counted, list_ran, table_at, entered, list_whole, list_read, phase_read, phase_fits, stepped, takes, step_on, Left}
use Rattle.linetotals_report.specs.Claims.{first_state, Space, read_on, InOrder, InputRan}
use Rattle.linetotals_report.proofs.Reading.{AtPhase, Represents, step, first-represents}

-- ---- one part more

pub on-more : (x : State) (parts : List (List ℕ)) (part : List ℕ) → read_on x (parts ++ (part ∷ [])) ≡ stepped (read_on x parts) part
unfolding read_on
on-more x [] part = refl
on-more x (first ∷ parts) part = on-more (stepped x first) parts part

pub in-order-more : (x : State) (parts : List (List ℕ)) (part : List ℕ) → InOrder x parts → 0 < wanted_at (read_on x parts).stage
    → length part ≤ wanted_at (read_on x parts).stage → InOrder x (parts ++ (part ∷ []))
unfolding InOrder read_on
in-order-more x [] part o some few = (some, few, tt)
in-order-more x (first ∷ parts) part o some few = (o.0, o.1, in-order-more (stepped x first) parts part o.2 some few)

-- ---- what is known of a stage that was reached

pub record Reached (x : State) : Type 1 where
  pub bytes : List ℕ
  pub full : Type 0
  pub represents : Represents bytes full x

reach : (x : State) → Reached x → (parts : List (List ℕ)) → InOrder x parts → Reached (read_on x parts)
unfolding InOrder read_on
reach x r [] o = r
reach x r (part ∷ parts) o =
    reach (stepped x part) (record { bytes = r.bytes ++ part; full = length part ≡ wanted_at x.stage; represents = step x r.bytes part r.full r.represents o.0 o.1 }) parts o.2

-- it wants no more than the longest list and a length word, and there is space for what it wants
fits-at : (p : Phase) (bytes : List ℕ) (x : State) → Space x → AtPhase p bytes x
    → (phase_wanted p x.stage.counts.count ≤ 16388) × (phase_fits p x.stage.counts.words x.stage.counts.count x.table x.list ≡ true)
fits-at TableLength bytes x s at = (omega arith, refl)
fits-at (TableWords n) bytes x s at = (omega (arith, at.few), le-leb n (length x.table) (omega (arith, at.few, s.table)))
fits-at FirstLength bytes x s at = (omega arith, refl)
fits-at (ListWords n) bytes x s at =
    let k = at.counted.known in
    let words : x.stage.counts.words ≤ length x.table = omega (arith, k.words, length-table_of at.head k.is_whole, s.table) in
    let list : n ≤ length x.list = omega (arith, at.going.short, s.list) in
    let count : x.stage.counts.count < most_lists = omega (arith, at.counted.count_is, at.going.count) in (
      omega (arith, at.going.short, head_few (most_lists - (x.stage.counts.count + 1))),
      and_intro (and_intro (le-leb x.stage.counts.words (length x.table) words) (le-leb n (length x.list) list)) (lt-ltb x.stage.counts.count most_lists count),
    )
fits-at (Over code) bytes x s at = (omega arith, refl)

-- how far a stage is from the end
abbrev rank : Phase → ℕ → ℕ
rank TableLength count = 65540
rank (TableWords n) count = 65539
rank FirstLength count = 65538
rank (ListWords n) count = 65537 - count
rank (Over code) count = 0

abbrev pub rank_of : Stage → ℕ
rank_of s = rank s.phase s.counts.count

next-below : (next : Result (Option ℕ) ListRefusal) (count k : ℕ) → 65537 - count < k → rank (next_phase next) count < k
next-below (Ok None) count k h = omega arith
next-below (Ok (Some n)) count k h = h
next-below (Err r) count k h = omega arith

length-below : (s : Stage) (part : List ℕ) → rank_of (length_read s part) < 65540
unfolding length_read
length-below s part =
    cond-elim (λ (p : Phase). rank p s.counts.count < 65540) (ltb (length part) 4) (λ _. omega arith)
    (λ _.
    cond-elim (λ (p : Phase). rank p s.counts.count < 65540) (ltb longest_table (word_at part 0)) (λ _. omega arith)
    (λ _. cond-elim (λ (p : Phase). rank p s.counts.count < 65540) (eqb (word_at part 0) 0) (λ _. omega arith) (λ _. omega arith)))

table_below : (n : ℕ) (s : Stage) (part : List ℕ) → rank_of (table_read n s part) < 65539
unfolding table_read table_checked
table_below n s part =
    cond-elim (λ (y : Stage). rank_of y < 65539) (ltb (length part) (4 * n)) (λ _. omega arith)
    (λ _. cond-elim (λ (y : Stage). rank_of y < 65539) (eqb (table_code (words_of (take (4 * n) part))) 0) (λ _. omega arith) (λ _. omega arith))

head-below : (s : Stage) (head : List ℕ) (k : ℕ) → 65537 - s.counts.count < k → rank_of (head_read s head) < k
unfolding head_read
head-below s head k h = next-below (next_of (most_lists - s.counts.count) head) s.counts.count k h

list-below : (n : ℕ) (x : State) (part : List ℕ) → x.stage.counts.count < most_lists → rank_of (list_read n x part).stage < 65537 - x.stage.counts.count
unfolding list_read list_whole list_ran counted
list-below n x part few =
    cond-elim (λ (y : State). rank_of y.stage < 65537 - x.stage.counts.count) (ltb (length part) (4 * n)) (λ _. omega arith)
    (λ _.
    cond-elim (λ (y : Stage). rank_of y < 65537 - x.stage.counts.count) (eqb (entered x (words_of (take (4 * n) part))).code 0)
    (λ _. head-below (counted x.stage (tally_with (table_at x) (words_of (take (4 * n) part)) x.stage.counts.tally)) (drop (4 * n) part) (65537 - x.stage.counts.count) (omega arith))
    (λ _. omega arith))

below : (x : State) (bytes part : List ℕ) (p : Phase) → AtPhase p bytes x → 0 < phase_wanted p x.stage.counts.count → rank_of (phase_read p x part).stage < rank p x.stage.counts.count
below x bytes part TableLength at some = length-below x.stage part
below x bytes part (TableWords n) at some = table_below n x.stage part
below x bytes part FirstLength at some = head-below x.stage part 65538 (omega arith)
below x bytes part (ListWords n) at some = list-below n x part (omega (arith, at.counted.count_is, at.going.count))
below x bytes part (Over code) at some = absurd (omega arith)

-- ---- a loop's states

-- parts that were wanted, in order, led from the first state to this one
pub record On (first x : State) : Type 0 where
  pub parts : List (List ℕ)
  pub in_order : InOrder first parts
  pub is : x ≡ read_on first parts

unfoldable pub on-start : (x : State) → On x x
unfolding InOrder read_on
on-start x = record { parts = []; in_order = tt; is = refl }

pub same-state : (y : State) {r : Stage} {table list answers holders : List ℕ} → Left y r table list answers holders
    → record { stage = r; table = table; list = list; answers = answers; holders = holders } ≡ y
same-state y {r} {table} {list} {answers} {holders} z =
    let a : (s : Stage) (u : List ℕ) → State = λ s u. record { stage = s; table = u; list = list; answers = answers; holders = holders } in
    let b : (u v : List ℕ) → State = λ u v. record { stage = y.stage; table = y.table; list = u; answers = v; holders = holders } in
    let c : (u : List ℕ) → State = λ u. record { stage = y.stage; table = y.table; list = y.list; answers = y.answers; holders = u } in
    ap₂ a z.stage_is z.table_is ∙ ap₂ b z.list_is z.answers_are ∙ ap c z.holders_are

module _ (table list answers holders : List ℕ) (space : Space (first_state table list answers holders)) (x : State)
    (on : On (first_state table list answers holders) x) where
  reached : Reached x
  reached =
      rw on.is
      (reach (first_state table list answers holders) (record { bytes = []; full = Unit {0}; represents = first-represents table list answers holders space }) on.parts on.in_order)

  pub wanted-few : wanted_at x.stage ≤ 16388
  wanted-few = (fits-at x.stage.phase reached.bytes x reached.represents.space reached.represents.at).0

  -- one reading more, of as many bytes as were wanted
  module _ (some : 0 < wanted_at x.stage) (want count : ℕ) (input : List ℕ) (own : want ≡ wanted_at x.stage) (few : count ≤ want) (came : count ≤ length input)
      {r : Stage} {table' list' answers' holders' : List ℕ} (left : Left (step_on x want count input) r table' list' answers' holders') where
    is-step : step_on x want count input ≡ stepped x (take count input)
    unfolding step_on takes
    is-step =
        let fits = (fits-at x.stage.phase reached.bytes x reached.represents.space reached.represents.at).1 in
        simp (eq-eqb want (wanted_at x.stage) own, le-leb count (length input) came, fits)

    pub state-is : record { stage = r; table = table'; list = list'; answers = answers'; holders = holders' } ≡ stepped x (take count input)
    state-is = same-state (step_on x want count input) left ∙ is-step

    unfoldable pub on-next : On (first_state table list answers holders) (record { stage = r; table = table'; list = list'; answers = answers'; holders = holders' })
    on-next =
        let most : length (take count input) ≤ wanted_at x.stage = omega (arith, length-take count input, own, few) in
        record {
          parts = on.parts ++ (take count input ∷ []);
          in_order = in-order-more _ on.parts (take count input) on.in_order (rw on.is at some) (rw on.is at most);
          is = state-is ∙ ap (λ (y : State). stepped y (take count input)) on.is ∙ sym (on-more _ on.parts (take count input));
        }

    pub nearer : rank_of r < rank_of x.stage
    unfolding stepped
    nearer =
        rw (ap (λ (y : State). y.stage) state-is) (below x reached.bytes (take count input) x.stage.phase reached.represents.at some)

-- where nothing more is wanted, the input was run
unfoldable pub input-ran : (table list answers holders : List ℕ) → Space (first_state table list answers holders) → (x : State) → On (first_state table list answers holders) x
    → wanted_at x.stage ≡ 0 → InputRan table x.stage x.table
input-ran table list answers holders space x on over =
    record {
      list = list;
      answers = answers;
      holders = holders;
      parts = on.parts;
      space = space;
      in_order = on.in_order;
      over = over;
      stage_is = ap (λ (y : State). y.stage) on.is;
      table_is = ap (λ (y : State). y.table) on.is;
    }
