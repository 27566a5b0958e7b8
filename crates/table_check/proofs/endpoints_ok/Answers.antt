-- The endpoints passed are valid, and their names are gathered.
use Rattle.std.proofs.Common.{refl, sym, ap, ◌∙◌, arith}
use native.Mathlib.Nat.{lt_of_lt_of_le}
use Rattle.machine.specs.Table.{domains, endpoints}
use Rattle.machine.specs.Check.{endpoint_ok}
use Rattle.table_check.proofs.Places.{headed-most, headed-size}
use Rattle.table_words.proofs.Scan.{scan-start, scan-next}
use Rattle.table_check.proofs.Fill.{fill_start, fill-next}
use Rattle.table_check.proofs.Gather.{part, part-name, names-decide, wrong-decides}
use Rattle.table_check.proofs.endpoints_ok.Goals as goal

pub bounds-table-0 : goal.bounds-table-0
bounds-table-0 c = omega (arith, headed-size _ c.requires)

pub loop-e-init : goal.loop-e-init
loop-e-init c =
    (record { tested = scan-start _ _; named = fill_start _ _ _ refl }, headed-size _ c.requires, headed-most _ c.requires)

pub returns-then-not-endpoint_ok : goal.returns-then-not-endpoint_ok
unfolding domains endpoints
returns-then-not-endpoint_ok c =
    let t = c.args.table.now in
    wrong-decides t _ _ refl c.loop-e-test.true
    (sym (c.endpoint_ok.ensures ∙ ap (endpoint_ok (domains t)) (part t _)) ∙ c.if-not-endpoint_ok.true)

pub loop-e-preserved : goal.loop-e-preserved
unfolding domains
loop-e-preserved c =
    let t = c.args.table.now in
    let so_far = c.loop-e.invariant.0 in (
      record {
        tested = scan-next _ _ _ _ _ so_far.tested c.loop-e-test.true (sym c.if-not-endpoint_ok.false ∙ c.endpoint_ok.ensures ∙ ap (endpoint_ok (domains t)) (part t _));
        named = fill-next _ _ _ _ _ so_far.named (lt_of_lt_of_le c.loop-e-test.true c.loop-e.invariant.2) (part-name t _);
      },
      c.loop-e.invariant.1,
      c.loop-e.invariant.2,
    )

pub returns : goal.returns
unfolding endpoints
returns c =
    c.all_different.ensures ∙ names-decide _ _ _ _ refl c.loop-e.invariant.2 c.loop-e.invariant.0 c.loop-e-test.false
