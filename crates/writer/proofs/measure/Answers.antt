-- `measure` meets its contract: the loop's invariant is the first pass, partly done (proofs/Passes). Assumes nothing.
use Prim.Native.Nat.{◌≤◌}
use mathlib.Core.Path.{sym, ◌∙◌}
use native.Mathlib.Omega.{arith}
use Rattle.writer_theory.proofs.FieldWords.{one-or-two}
use Rattle.writer.proofs.Passes.{front-given, measuring-start, measured-unfit, measuring-next, measured-all}
use Rattle.writer.proofs.measure.Goals as goal

pub loop-i-init : goal.loop-i-init
loop-i-init g c = (omega arith, λ cs given. measuring-start cs)

pub returns-then-not-fits : goal.returns-then-not-fits
returns-then-not-fits g c cs given =
    measured-unfit (c.loop-i.invariant.1 cs given) _ (front-given given _ _ c.loop-i-test.true c.call_at-call.ensures) (omega (arith, given.count))
    (sym c.fits.ensures ∙ c.if-not-fits.true)

pub overflow_add-words : goal.overflow_add-words
overflow_add-words g c =
    let most : c.width-words.result ≤ 2 = rw c.width-words.ensures (one-or-two _).1 in
    omega (arith, c.loop-i.invariant.0)

pub loop-i-preserved : goal.loop-i-preserved
loop-i-preserved g c =
    let most : c.width-words.result ≤ 2 = rw c.width-words.ensures (one-or-two _).1 in (
      omega (arith, c.loop-i.invariant.0),
      λ cs given. measuring-next (c.loop-i.invariant.1 cs given) _ (front-given given _ _ c.loop-i-test.true c.call_at-call.ensures)
          (omega (arith, given.count)) _ c.width-words.ensures (sym c.fits.ensures ∙ c.if-not-fits.false),
    )

pub returns : goal.returns
returns g c cs given = measured-all (c.loop-i.invariant.1 cs given) (omega (arith, given.count))
