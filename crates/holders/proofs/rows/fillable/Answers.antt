-- `rows::fillable` meets its contract. Assumes nothing.
use native.Mathlib.Nat.{mul-le-mul}
use native.Mathlib.Omega.{arith}
use borrow.Author.Tests.{lt-leb, le-leb}
use Rattle.holders_theory.specs.Noted.{room_for}
use Rattle.holders.proofs.rows.fillable.Goals as goal

pub returns-then-n-gt-MOST_DOMAINS : goal.returns-then-n-gt-MOST_DOMAINS
unfolding room_for
returns-then-n-gt-MOST_DOMAINS c = rw (lt-leb _ 16 c.if-n-gt-MOST_DOMAINS.true)

pub overflow_mul-result : goal.overflow_mul-result
overflow_mul-result c = omega (arith, mul-le-mul c.if-n-gt-MOST_DOMAINS.false c.if-n-gt-MOST_DOMAINS.false)

pub returns : goal.returns
unfolding room_for
returns c = rw (le-leb _ 16 c.if-n-gt-MOST_DOMAINS.false)
