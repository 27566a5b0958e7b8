-- A stage of the reading of linetotals' input (document 02 (e), end-of-shift totals): what the next bytes are, and so how many are
-- wanted; and what was counted so far. A stage is made by the functions of this crate alone.
use Rattle.std.specs.Prelude.{ℕ, ◌+◌, ◌-◌, ◌*◌, replicate}
use Rattle.table_check.specs.Checked.{refusal_code}
use Rattle.run_result.specs.Entry.{entry_refusal_code}
use Rattle.totals_add.specs.Added.{no_totals}
use Rattle.linetotals_input.specs.Input.{most_lists, head_wanted}
use Rattle.linetotals_run.specs.declared.Phase.{Phase}
use Rattle.linetotals_run.specs.declared.Phase.TheVariants.{TableLength, TableWords, FirstLength, ListWords, Over}
use Rattle.linetotals_run.specs.declared.ReadRefusal.{ReadRefusal}
use Rattle.linetotals_run.specs.declared.ReadRefusal.TheVariants.{CutShort, BadTable, BadList}
use Rattle.linetotals_run.specs.declared.Stage.{Stage}
use Rattle.linetotals_run.specs.declared.Counts.{Counts}

-- how many bytes are wanted next: the table's length word, its words, the first list's length word, a list's words with the bytes
-- before the next list, and nothing
abbrev pub phase_wanted : Phase → ℕ → ℕ
phase_wanted TableLength count = 4
phase_wanted (TableWords n) count = 4 * n
phase_wanted FirstLength count = 4
phase_wanted (ListWords n) count = 4 * n + head_wanted (most_lists - (count + 1))
phase_wanted (Over code) count = 0

abbrev pub wanted_at : Stage → ℕ
wanted_at s = phase_wanted s.phase s.counts.count

-- the code that ended the reading; 7 where it isn't over
abbrev pub phase_code : Phase → ℕ
phase_code TableLength = 7
phase_code (TableWords n) = 7
phase_code FirstLength = 7
phase_code (ListWords n) = 7
phase_code (Over code) = code

-- a refusal's code
abbrev pub read_refusal_code : ReadRefusal → ℕ
read_refusal_code CutShort = 7
read_refusal_code (BadTable r) = refusal_code r
read_refusal_code (BadList r) = entry_refusal_code r

-- the first stage
abbrev pub first_stage : Stage
first_stage =
    record {
      phase = TableLength;
      counts = record { words = 0; endpoints = 0; count = 0; start = replicate 32 0; tally = no_totals };
    }

-- a stage with another phase
abbrev pub in_phase : Phase → Stage → Stage
in_phase p s = record s { phase = p }

-- what was counted so far
abbrev pub counts_at : Stage → Counts
counts_at s = s.counts

-- the code that ended the reading; 7 where it isn't over
abbrev pub code_at : Stage → ℕ
code_at s = phase_code s.phase
