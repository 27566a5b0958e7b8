-- `rights_calls::held` meets its contract: both are domains, so the word is in the table. Assumes nothing.
use mathlib.Core.Path.{ap, ◌∙◌}
use Prim.Native.Nat.{ℕ}
use native.Mathlib.Omega.{arith}
use lib.ListN.{get_or}
use Rattle.machine.specs.Word.{payload}
use Rattle.table_layout.proofs.Places.{rights-read}
use Rattle.kernel.proofs.Ranges.{right-in}
use Rattle.kernel.proofs.rights_calls.held.Goals as goal

pub offset_bounds-table-at : goal.offset_bounds-table-at
offset_bounds-table-at c = omega (arith, right-in _ c.requires.accepted _ c.requires.same_domains _ _ _ c.requires.known_holder c.requires.known_target c.rights_at-at.ensures)

pub bounds-table-at : goal.bounds-table-at
bounds-table-at c = right-in _ c.requires.accepted _ c.requires.same_domains _ _ _ c.requires.known_holder c.requires.known_target c.rights_at-at.ensures

pub returns : goal.returns
returns c =
    ap (λ (k : ℕ). payload (get_or c.args.table.now k 0)) c.rights_at-at.ensures ∙ rights-read _ _ c.requires.same_domains _ _
