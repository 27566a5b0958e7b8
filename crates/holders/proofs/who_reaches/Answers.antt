-- `who_reaches` meets its contract: the question is refused, or the closure of the domain alone is reported. Assumes nothing.
use mathlib.Core.Path.{sym, ap, ◌∙◌}
use native.Mathlib.Omega.{arith}
use Rattle.reachability.specs.Closure.{closed}
use Rattle.reachability.proofs.Bits.{bit_is}
use Rattle.holders_theory.proofs.Reported.{askable-parts}
use Rattle.holders.proofs.Reported.{reported-nothing, reported}
use Rattle.holders.proofs.who_reaches.Goals as goal

pub returns-then-not-askable : goal.returns-then-not-askable
returns-then-not-askable c = reported-nothing _ _ (sym (c.if-not-askable.true) ∙ c.askable.ensures)

pub returns : goal.returns
returns c =
    let test = c in
    let asked = sym (test.if-not-askable.false) ∙ test.askable.ensures in
    let (few, _, below) = askable-parts _ _ (sym asked) in
    let alone = bit_is (omega (arith, few, below)) c.bit.ensures in
    reported _ _ asked _ (c.closure.ensures ∙ ap (closed test.args.words.now) alone)
