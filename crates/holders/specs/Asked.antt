-- The answers of the code as the codes of document 02 (h), and for callers what they report.
use Rattle.std.specs.Prelude.{ℕ, Result, Ok, Err}
use Rattle.result_code.specs.Code.{result_code}
use Rattle.holders.specs.declared.AskRefusal.{AskRefusal}
use Rattle.holders.specs.declared.AskRefusal.TheVariants.{NotAskable}
pub use Rattle.holders_theory.specs.Asked.{ReachReported}

-- the code of a refusal
abbrev pub ask_refusal_code : AskRefusal → ℕ
ask_refusal_code NotAskable = 32

-- the code of an answer
abbrev pub asked_code : Result ℕ AskRefusal → ℕ
asked_code r = result_code ask_refusal_code r

-- the domains that an answer has
abbrev pub asked_set : Result ℕ AskRefusal → ℕ
asked_set (Ok set) = set
asked_set (Err r) = 0
