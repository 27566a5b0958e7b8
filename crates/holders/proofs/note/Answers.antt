-- `note` meets its contract: one bit is altered where the words have it. Assumes nothing.
use mathlib.Core.Path.{ap, ◌∙◌}
use lib.ListN.{set}
use Rattle.machine.specs.Right.{has_any}
use Rattle.holders_theory.proofs.Kept.{noted-there, noted-no-bit, noted-no-word}
use Rattle.holders.proofs.note.Goals as goal

pub returns-then-holder-gt31 : goal.returns-then-holder-gt31
returns-then-holder-gt31 c = noted-no-bit _ _ _ _ c.if-holder-gt31.true

pub returns-then-at-holders : goal.returns-then-at-holders
unfolding has_any
returns-then-at-holders c =
    let start = c in
    ap (set start.args.holders.now start.args.target) c.with_bit.ensures
    ∙ noted-there _ _ _ _ c.if-holder-gt31.false c.if-at-holders.true

pub returns-else-at-holders : goal.returns-else-at-holders
returns-else-at-holders c = noted-no-word _ _ _ _ c.if-holder-gt31.false c.if-at-holders.false
