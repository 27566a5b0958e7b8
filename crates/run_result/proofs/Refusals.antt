-- What is so of every refusal at the entry. Assumes nothing.
use mathlib.Core.Path.{◌≡◌}
use native.Mathlib.Omega.{arith}
use Rattle.table_check.proofs.Refusals.{refusal-code}
use Rattle.run_result.specs.Entry.{entry_refusal_code}
use Rattle.run_result.specs.declared.EntryRefusal.{EntryRefusal}
use Rattle.run_result.specs.declared.EntryRefusal.TheVariants.{ListTooLong, BadTable, SpaceTooSmall, BadHolders}

-- a refusal has a code
pub entry-refusal-code : (r : EntryRefusal) → entry_refusal_code r ≡ 0 → ⊥
entry-refusal-code ListTooLong e = omega arith
entry-refusal-code (BadTable r) e = refusal-code r e
entry-refusal-code SpaceTooSmall e = omega arith
entry-refusal-code BadHolders e = omega arith
