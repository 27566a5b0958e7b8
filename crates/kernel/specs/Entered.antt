-- The code of a run's entry (document 01, 'Where each number is checked').
use Rattle.std.specs.Prelude.{ℕ, Result, ⊤}
use Rattle.result_code.specs.Code.{result_code}
use Rattle.run_result.specs.Entry.{entry_refusal_code}
use Rattle.run_result.specs.declared.EntryRefusal.{EntryRefusal}

-- its refusal's code, or 0
abbrev pub entered_code : Result ⊤ EntryRefusal → ℕ
entered_code r = result_code entry_refusal_code r
