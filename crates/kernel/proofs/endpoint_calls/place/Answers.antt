-- `endpoint_calls::place` meets its contract: an accepted table has every endpoint's words. Assumes nothing.
use mathlib.Core.Path.{ap, ◌∙◌}
use Prim.Native.Nat.{ℕ}
use native.Mathlib.Omega.{arith}
use Rattle.machine.specs.Table.{endpoint_at}
use Rattle.table_layout.proofs.Places.{eight-bits}
use Rattle.kernel.proofs.Ranges.{endpoint-in}
use Rattle.kernel.proofs.endpoint_calls.place.Goals as goal

pub returns : goal.returns
returns c =
    let r = c.requires in
    let value = c.endpoint_at.ensures ∙ ap (λ (k : ℕ). endpoint_at k c.args.e) (eight-bits _ _ r.same_domains ∙ r.same_domains) in
    record {
      value = value;
      within = omega (arith, value, endpoint-in _ r.accepted _ r.same_domains _ _ r.same_endpoints r.known);
    }
