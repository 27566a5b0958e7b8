-- `component_of` meets its contract: a table is refused, or the index is no domain's, or its component is reported.
-- Assumes nothing.
use mathlib.Core.Path.{sym}
use native.Mathlib.Omega.{arith}
use Rattle.std.proofs.lemmas.Result.{err_from_is_err_and}
use Rattle.machine.proofs.Accepted.{accepted-counts}
use Rattle.table_check.proofs.Refusals.{refusal-code}
use Rattle.components.proofs.Reported.{reported-refused, reported-none, reported}
use Rattle.components.proofs.component_of.Goals as goal

pub returns-in_err-check : goal.returns-in_err-check
returns-in_err-check c =
    let p = err_from_is_err_and c.from_residual.result c.from_residual.ensures.1 in
    rw (p.1, p.2) (reported-refused _ _ _ c.in_err-check.ensures (refusal-code c.in_err-check.field-0.0))

pub returns-then-n-domain : goal.returns-then-n-domain
returns-then-n-domain c = reported-none _ _ (sym c.in_ok-check.ensures) (omega (arith, c.domains-n.ensures, c.if-n-domain.true))

pub members-requires : goal.members-requires
members-requires c =
    let n = c.domains-n.ensures in
    let few = (accepted-counts _ (sym c.in_ok-check.ensures)).1 in
    record { domains = n; few = omega (arith, n, few); is_domain = c.if-n-domain.false }

pub returns : goal.returns
returns c =
    reported _ _ (sym c.in_ok-check.ensures) (omega (arith, c.domains-n.ensures, c.if-n-domain.false)) _ c.members.ensures
