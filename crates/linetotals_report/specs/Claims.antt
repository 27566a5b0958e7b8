-- What is claimed of the stages of linetotals' reading (document 02 (e), end-of-shift totals): parts of the lengths that were wanted,
-- in order, give the sheet of all of them, and no byte is wanted that can't matter.
use Rattle.std.specs.Prelude.{ℕ, ◌*◌, ◌<◌, ◌≤◌, ◌≡◌, List, [], ◌∷◌, ◌++◌, length}
use Rattle.machine.specs.Entry.{longest_list}
use Rattle.input_words.specs.TableInput.{longest_table}
use Rattle.linetotals_input.specs.Input.{wanted, Needed}
use Rattle.linetotals_theory.specs.Sheet.{sheet}
use Rattle.linetotals_run.specs.declared.Stage.{Stage}
use Rattle.linetotals_run.specs.Stage.{wanted_at, first_stage}
use Rattle.linetotals_run.specs.Step.{State, stepped}
use Rattle.linetotals_report.specs.Report.{stage_lines}

-- the first state, with these lent words
abbrev pub first_state : List ℕ → List ℕ → List ℕ → List ℕ → State
first_state table list answers holders =
    record { stage = first_stage; table = table; list = list; answers = answers; holders = holders }

-- there is space for the longest table, the longest list and its answers, and a word for each domain that there may be
pub record Space (x : State) : Type 0 where
  pub table : longest_table ≤ length x.table
  pub list : longest_list ≤ length x.list
  pub answers : 3 * longest_list ≤ length x.answers
  pub holders : 16 ≤ length x.holders

-- the state after parts of the input, taken one after another
unfoldable pub read_on : State → List (List ℕ) → State
read_on x [] = x
read_on x (part ∷ parts) = read_on (stepped x part) parts

-- each part was wanted: some bytes were, and it has at most as many
unfoldable pub InOrder : State → List (List ℕ) → Type 0
InOrder x [] = Unit {0}
InOrder x (part ∷ parts) =
    (0 < wanted_at x.stage) × (length part ≤ wanted_at x.stage) × InOrder (stepped x part) parts

-- each part has all the bytes that were wanted: the input goes on
unfoldable pub AllCame : State → List (List ℕ) → Type 0
AllCame x [] = Unit {0}
AllCame x (part ∷ parts) = (length part ≡ wanted_at x.stage) × AllCame (stepped x part) parts

-- the parts as one input
unfoldable pub joined : List (List ℕ) → List ℕ
joined [] = []
joined (part ∷ parts) = part ++ joined parts

-- What parts that were wanted give: each of their bytes was needed; where nothing more is wanted, what is printed is their sheet; and
-- as long as all came that was wanted, as many bytes are wanted as the definition says, so that the reading is over as soon as no
-- byte can matter.
pub record Reading (bytes : List ℕ) (all : Type 0) (x : State) : Type 0 where
  pub needed : Needed bytes
  pub sheet_is : wanted_at x.stage ≡ 0 → stage_lines x.stage x.table ≡ sheet bytes
  pub as_wanted : all → wanted bytes ≡ wanted_at x.stage

abbrev pub EveryReading : Type 0
EveryReading =
    (table list answers holders : List ℕ) (parts : List (List ℕ))
    → Space (first_state table list answers holders)
    → InOrder (first_state table list answers holders) parts
    → Reading (joined parts) (AllCame (first_state table list answers holders) parts) (read_on (first_state table list answers holders) parts)

-- A program's loop left the last stage of a reading of standard input, and the table: with some lent words, it took parts that were
-- wanted, in order, until nothing more was. Which bytes come is the world's.
pub record InputRan (before : List ℕ) (stage : Stage) (after : List ℕ) : Type 0 where
  pub list : List ℕ
  pub answers : List ℕ
  pub holders : List ℕ
  pub parts : List (List ℕ)
  pub space : Space (first_state before list answers holders)
  pub in_order : InOrder (first_state before list answers holders) parts
  pub over : wanted_at stage ≡ 0
  pub stage_is : stage ≡ (read_on (first_state before list answers holders) parts).stage
  pub table_is : after ≡ (read_on (first_state before list answers holders) parts).table
