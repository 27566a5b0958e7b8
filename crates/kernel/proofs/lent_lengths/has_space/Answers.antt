-- `lent_lengths::has_space` meets its contract: a list has no more calls than words. Assumes nothing.
use mathlib.Core.Path.{sym, ap, ◌∙◌}
use mathlib.Core.Bool.{not}
use Prim.Native.Nat.{ℕ, ◌*◌}
use native.Mathlib.Omega.{arith}
use lib.Dec.{ltb}
use lib.ListN.{length}
use borrow.Author.Tests.{le-ltb}
use Rattle.machine.specs.Call.{split}
use Rattle.machine.proofs.Split.{split-few}
use Rattle.kernel.proofs.Entries.{at_most}
use Rattle.kernel.proofs.lent_lengths.has_space.Goals as goal

pub returns-then-list-size : goal.returns-then-list-size
returns-then-list-size c =
    let a = c.args in
    sym (ap not (le-ltb a.size (3 * length (split a.list.now)) (omega (arith, split-few a.list.now, c.if-list-size.true))))

pub overflow_mul-result : goal.overflow_mul-result
overflow_mul-result c = omega (arith, c.count-calls.ensures, split-few c.args.list.now, c.requires)

pub returns : goal.returns
returns c =
    let a = c.args in
    at_most (3 * c.count-calls.result) a.size ∙ ap (λ (k : ℕ). not (ltb a.size (3 * k))) c.count-calls.ensures
