-- `matrix::fill` meets its contract: the cells passed are filled in. Assumes nothing.
use mathlib.Core.Path.{◌∙◌}
use native.Mathlib.Omega.{arith}
use Rattle.potential_theory.specs.Closure.{matrix_of}
use Rattle.potential.proofs.Loops.{words-of}
use Rattle.potential.proofs.matrix.fill.Goals as goal

pub returns : goal.returns
unfolding matrix_of
returns c =
    let size = c.loop-i.auto.rights in
    words-of _ _ _ (size ∙ c.requires) (λ k l. c.loop-i.invariant k (omega (arith, size)))
