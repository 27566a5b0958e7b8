-- `rows::add_row` meets its contract: the words are written one after the other. Assumes nothing.
use mathlib.Core.Path.{◌∙◌}
use native.Mathlib.Omega.{arith}
use Rattle.reachability.proofs.Bits.{bit_is}
use Rattle.holders.proofs.Filled.{written_next, words-of, row_word}
use Rattle.holders.proofs.rows.add_row.Goals as goal

pub loop-g-preserved : goal.loop-g-preserved
loop-g-preserved c =
    let inv = c.loop-g.invariant in
    let fit = c.requires.fit in
    written_next _ _ _ _ inv _ (omega (arith, inv.size))
    (row_word _ _ _ _ _ _ _ _ _ (inv.rest _ (omega arith)) c.rights_at-at.ensures (bit_is (omega (arith, fit.few)) c.bit-holder.ensures) c.held.ensures)

pub returns : goal.returns
returns c =
    let inv = c.loop-g.invariant in
    let size = c.requires.fit.words in
    words-of _ _ _ (inv.size ∙ size) (λ k l. inv.front k (omega (arith, inv.size, size)))
