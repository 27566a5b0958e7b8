-- `influence_by` meets its contract: the potential rights are refused, or the chains in them are those of the set. Assumes nothing.
use mathlib.Core.Path.{refl}
use native.Mathlib.Omega.{arith}
use Rattle.potential.proofs.Reported.{refusal-code}
use Rattle.machine.proofs.Accepted.{accepted-counts}
use Rattle.influence.proofs.Reported.{reported-not-domains, reported}
use Rattle.influence.proofs.influence_by.Goals as goal

pub returns-in-Err : goal.returns-in-Err
returns-in-Err c =
    let pre = c.requires in
    reported-not-domains _ _ _ pre.accepted _ pre.domains pre.is_domain _ pre.size _ _ c.in-Err.ensures (refusal-code c.in-Err.field-0)

pub chained-requires : goal.chained-requires
chained-requires c =
    let pre = c.requires in
    record { few = omega (arith, pre.domains, (accepted-counts _ pre.accepted).1); is_domain = pre.is_domain }

pub returns-in-Ok : goal.returns-in-Ok
returns-in-Ok c =
    let pre = c.requires in
    reported _ _ _ pre.accepted _ pre.domains pre.is_domain _ pre.size _ _ c.in-Ok.ensures refl _ c.chained.ensures
