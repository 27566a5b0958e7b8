-- `order::waits_from` meets its contract: a domain waits where its count isn't zero. Assumes nothing.
use mathlib.Core.Path.{sym, ap, ◌∙◌}
use mathlib.Core.Bool.{Bool, ◌&&◌}
use native.Mathlib.Omega.{arith}
use borrow.Author.Tests.{le-leb}
use Rattle.turns_state.specs.State.{turns_in}
use Rattle.turns_theory.specs.Turns.{waits}
use Rattle.turns_state.proofs.Blocks.{waits-word, before-place}
use Rattle.turns_state.proofs.order.waits_from.Goals as goal

pub returns-then-d-place : goal.returns-then-d-place
returns-then-d-place c = before-place c.args.place c.args.d _ c.if-d-place.true

pub returns : goal.returns
returns c =
    let a = c.args in
    let s = turns_in a.state.now in
    sym
    (ap (λ (b : Bool). b && waits s a.d) (le-leb a.place a.d (omega (arith, c.if-d-place.false)))
    ∙ waits-word a.state.now a.n a.d c.requires.state_len c.requires.d_lt_n)
