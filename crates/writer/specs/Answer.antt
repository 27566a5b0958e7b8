-- The results of the code as document 02's codes and numbers (document 02, (c)).
use Rattle.std.specs.Prelude.{ℕ, Result, Ok, Err, List}
use Rattle.result_code.specs.Code.{result_code}
use Rattle.writer_theory.specs.Write.{WriteOutcome}
use Rattle.writer.specs.declared.WriteRefusal.{WriteRefusal}
use Rattle.writer.specs.declared.WriteRefusal.TheVariants.{BadCall, TooLong}

-- the code of a refusal
abbrev pub refusal_code : WriteRefusal → ℕ
refusal_code (BadCall i) = 30
refusal_code TooLong = 31

-- and the number that goes with it
abbrev pub refusal_number : WriteRefusal → ℕ
refusal_number (BadCall i) = i
refusal_number TooLong = 0

-- the code of a result of the writer
abbrev pub written_code : Result ℕ WriteRefusal → ℕ
written_code r = result_code refusal_code r

-- and the number that goes with it
abbrev pub written_number : Result ℕ WriteRefusal → ℕ
written_number (Ok words) = words
written_number (Err r) = refusal_number r

-- the outcome that a result and the words left make up
abbrev pub answered : Result ℕ WriteRefusal → List ℕ → WriteOutcome
answered r list = record { code = written_code r; number = written_number r; list = list }
