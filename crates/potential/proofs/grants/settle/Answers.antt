-- `grants::settle` meets its contract: a round that adds nothing ends it, and each other leaves less room. Assumes nothing.
use mathlib.Core.Path.{sym, ◌∙◌}
use Rattle.potential.proofs.Loops.{sum-total}
use Rattle.potential.proofs.Settling.{sum_fits, settling-start, round-proper, settling-end, settling-less, settling-next}
use Rattle.potential.proofs.grants.settle.Goals as goal

pub sum-last-requires : goal.sum-last-requires
sum-last-requires c =
    sum_fits _ _ c.requires.proper c.requires.few

pub loop-last-init : goal.loop-last-init
loop-last-init c = settling-start _ _ _ _ c.requires.proper (c.sum-last.ensures ∙ sum-total _)

pub grant_round-requires : goal.grant_round-requires
grant_round-requires c = record { size = c.loop-last.invariant.proper.size; few = c.requires.few }

pub sum-next-requires : goal.sum-next-requires
sum-next-requires c =
    sum_fits _ _ (round-proper _ _ _ _ _ c.loop-last.invariant _ c.grant_round.ensures) c.requires.few

pub shape_of-rights-then-next-last : goal.shape_of-rights-then-next-last
shape_of-rights-then-next-last c =
    (round-proper _ _ _ _ _ c.loop-last.invariant _ c.grant_round.ensures).size ∙ sym c.requires.proper.size

pub returns-then-next-last : goal.returns-then-next-last
returns-then-next-last c =
    settling-end _ _ _ _ _ c.loop-last.invariant _ c.grant_round.ensures _ (c.sum-next.ensures ∙ sum-total _) c.if-next-last.true

pub loop-last-smaller : goal.loop-last-smaller
loop-last-smaller c =
    settling-less _ _ _ _ _ c.loop-last.invariant _ c.grant_round.ensures _ (c.sum-next.ensures ∙ sum-total _) c.if-next-last.false

pub loop-last-preserved : goal.loop-last-preserved
loop-last-preserved c =
    settling-next _ _ _ _ _ c.loop-last.invariant _ c.grant_round.ensures _ (c.sum-next.ensures ∙ sum-total _) c.if-next-last.false
