-- The holders of a table by itself (document 02 (h)), as a run of no call leaves them.
use Rattle.std.specs.Prelude.{ℕ, ◌≡◌, cond, List, eqb, length}
use Rattle.machine.specs.Holders.{holders_of}
use Rattle.kernel.specs.Step.{step_entry_code}
-- the codes of refusals, which a layer above the kernel has in its own
pub use Rattle.table_check.specs.Checked.{refusal_code}
pub use Rattle.run_result.specs.Entry.{entry_refusal_code}

-- where the entry doesn't refuse, the holders are those of the table, whatever was lent for them; else nothing changes
pub record HoldersPromise (t holders : List ℕ) (code : ℕ) (kept : List ℕ) : Type 0 where
  pub same_code : code ≡ step_entry_code t (length holders)
  pub same_holders : kept ≡ cond (eqb (step_entry_code t (length holders)) 0) (holders_of t) holders
