-- `potential_of` meets its contract: a table is refused, or the space, or the set; else the matrix of the table is filled in and
-- settled. Assumes nothing.
use mathlib.Core.Path.{◌≡◌, sym, subst₂}
use mathlib.Core.List.{List}
use Prim.Native.Nat.{ℕ, ◌≤◌}
use native.Mathlib.Omega.{arith}
use Rattle.std.proofs.lemmas.Result.{err_from_is_err_and}
use Rattle.machine.specs.Check.{Accepted}
use Rattle.machine.specs.Table.{domains}
use Rattle.machine.proofs.Accepted.{accepted-counts}
use Rattle.table_check.proofs.Refusals.{refusal-code}
use Rattle.potential_theory.specs.Closure.{Proper}
use Rattle.potential_theory.proofs.Matrix.{matrix-proper}
use Rattle.potential.proofs.Reported.{reported-refused, reported-space, reported-not-domains, reported}
use Rattle.potential.proofs.potential_of.Goals as goal

few : (t : List ℕ) (n : ℕ) → Accepted t → n ≡ domains t → n ≤ 16
few t n accepted is = omega (arith, is, (accepted-counts t accepted).1)

pub returns-in_err-check : goal.returns-in_err-check
returns-in_err-check c =
    let p = err_from_is_err_and c.from_residual.result c.from_residual.ensures.1 in
    rw (p.1, p.2) (reported-refused _ _ _ _ c.in_err-check.ensures (refusal-code c.in_err-check.field-0.0))

pub returns-then-rights-n : goal.returns-then-rights-n
returns-then-rights-n c = reported-space _ _ _ (sym c.in_ok-check.ensures) _ c.domains-n.ensures c.if-rights-n.true

pub power-requires : goal.power-requires
power-requires c = few _ _ (sym c.in_ok-check.ensures) c.domains-n.ensures

pub returns-then-power-actors : goal.returns-then-power-actors
returns-then-power-actors c =
    reported-not-domains _ _ _ (sym c.in_ok-check.ensures) _ c.domains-n.ensures c.if-rights-n.false _ c.power.ensures c.if-power-actors.true

pub settle-requires-clause-proper : goal.settle-requires-clause-proper
settle-requires-clause-proper c = subst₂ Proper (sym c.domains-n.ensures) (sym c.fill.ensures) (matrix-proper _ (sym c.in_ok-check.ensures))

pub settle-requires-clause-few : goal.settle-requires-clause-few
settle-requires-clause-few c = few _ _ (sym c.in_ok-check.ensures) c.domains-n.ensures

pub returns : goal.returns
returns c =
    reported _ _ _ (sym c.in_ok-check.ensures) _ c.domains-n.ensures c.if-rights-n.false _ c.power.ensures c.if-power-actors.false _ _
    c.fill.ensures c.settle.ensures
