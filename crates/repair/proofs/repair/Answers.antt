-- `repair` meets its contract: more words than the largest table has are no table, and for any others there is room for a copy.
-- Assumes nothing.
use Rattle.repair.proofs.Outcomes.{too-many-words}
use Rattle.repair.proofs.repair.Goals as goal

pub returns-then-size-gt-LONGEST_TABLE : goal.returns-then-size-gt-LONGEST_TABLE
returns-then-size-gt-LONGEST_TABLE c = too-many-words _ _ c.if-size-gt-LONGEST_TABLE.true
