-- The answers of the code as the codes of document 02 (k).
use Rattle.std.specs.Prelude.{ℕ, Result, Ok, Err}
use Rattle.result_code.specs.Code.{result_code}
use Rattle.repair.specs.declared.RepairRefusal.{RepairRefusal}
use Rattle.repair.specs.declared.RepairRefusal.TheVariants.{BadFrame, ListTooShort}

-- the code of a refusal
abbrev pub repair_refusal_code : RepairRefusal → ℕ
repair_refusal_code BadFrame = 33
repair_refusal_code ListTooShort = 34

-- the code of an answer
abbrev pub repaired_code : Result ℕ RepairRefusal → ℕ
repaired_code r = result_code repair_refusal_code r

-- the count of words altered
abbrev pub repaired_count : Result ℕ RepairRefusal → ℕ
repaired_count (Ok count) = count
repaired_count (Err r) = 0
