-- `order::first_from` meets its contract. Assumes nothing.
use mathlib.Core.Bool.{true, false, ◌&&◌}
use mathlib.Core.Path.{◌≡◌}
use Prim.Native.Nat.{ℕ}
use borrow.Author.Tests.{tests}
use lib.Dec.{leb}
use Rattle.std.proofs.Common.{rules}
use Rattle.std.proofs.lemmas.Iterator.{first_from_Range}
use Rattle.turns_theory.specs.Turns.{waits, first_pending_from}
use Rattle.turns_state.specs.State.{turns_in}
use Rattle.turns_state.proofs.Next.{search-found}
use Rattle.turns_state.proofs.order.first_from.Goals as goal

pub returns : goal.returns
unfolding first_pending_from
returns c =
    let a = c.args in
    let waiting = (λ (d : ℕ). leb a.place d && waits (turns_in a.state.now) d) in
    search-found a.n waiting _
    (first_from_Range _ _ _ c.find.result (λ (d : ℕ). waiting d ≡ true) (λ (d : ℕ). waiting d ≡ false) c.find.ensures.ran (λ x q k. search (rules, tests)) (λ x q k. search (rules, tests)))
