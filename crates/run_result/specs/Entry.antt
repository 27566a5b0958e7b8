-- A run's code and its count of calls (document 01, 'Where each number is checked'; document 02 (h)).
use Rattle.std.specs.Prelude.{ℕ, Result, Ok, Err}
use Rattle.result_code.specs.Code.{result_code}
use Rattle.table_check.specs.Checked.{refusal_code}
use Rattle.run_result.specs.declared.EntryRefusal.{EntryRefusal}
use Rattle.run_result.specs.declared.EntryRefusal.TheVariants.{ListTooLong, BadTable, SpaceTooSmall, BadHolders}

-- a refusal's code
abbrev pub entry_refusal_code : EntryRefusal → ℕ
entry_refusal_code ListTooLong = 1
entry_refusal_code (BadTable r) = refusal_code r
entry_refusal_code SpaceTooSmall = 6
entry_refusal_code BadHolders = 6

-- a run's code: its refusal's, or 0
abbrev pub ran_code : Result ℕ EntryRefusal → ℕ
ran_code r = result_code entry_refusal_code r

-- a run's count of calls: 0 after a refusal
abbrev pub ran_calls : Result ℕ EntryRefusal → ℕ
ran_calls (Ok calls) = calls
ran_calls (Err r) = 0
