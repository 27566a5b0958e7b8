-- `run_input` meets its contract: the parts that it read lead from the first stage to this one, and are what the reader gave.
use Rattle.std.proofs.Common.{◌≡◌, length}
use Rattle.linetotals_report.specs.Claims.{first_state, Space}
use Rattle.linetotals_report.proofs.Loop.{rank_of}
use Rattle.linetotals.proofs.Gave.{Gave}
use Rattle.linetotals.proofs.run_input.Given as goal

abbrev pub invariant-loop-input : goal.invariant-loop-input
invariant-loop-input g l =
    record {
      gave : Gave (first_state l.initial.table l.initial.list l.initial.answers l.initial.holders)
          (g.R.Read.remaining l.initial.reader) (g.R.Read.remaining l.reader)
          (record { stage = l.stage; table = l.table; list = l.list; answers = l.answers; holders = l.holders });
      space : Space (first_state l.initial.table l.initial.list l.initial.answers l.initial.holders);
      table_long : length l.table ≡ length l.initial.table;
      input_long : length l.input ≡ 16388;
      list_long : length l.list ≡ 4096;
      answers_long : length l.answers ≡ 12288;
      holders_long : length l.holders ≡ 16;
    }

abbrev pub decreases-loop-input : goal.decreases-loop-input
decreases-loop-input g l = rank_of l.stage
