-- The endpoints passed are valid, and their names are gathered.
use Rattle.std.proofs.Common.{ℕ, ◌%◌, refl, sym, ap, ◌∙◌}
use mathlib.Core.Path.{ap₂}
use native.Mathlib.Nat.{lt_of_lt_of_le}
use Rattle.machine.specs.Check.{endpoint_ok}
use Rattle.table_words.proofs.Scan.{scan-start, scan-next}
use Rattle.table_check.proofs.Fill.{fill_start, fill-next}
use Rattle.table_check.proofs.Gather.{names-decide, wrong-decides}
use Rattle.table_check_bytes.proofs.Places.{counted-endpoint, counted-name, header_four, fitting-counted}
use Rattle.table_check_bytes.proofs.endpoints_ok.Goals as goal

pub nth_word-header-requires : goal.nth_word-header-requires
nth_word-header-requires c = header_four _ c.requires.header

pub loop-e-init : goal.loop-e-init
loop-e-init c =
    (record { tested = scan-start _ _; named = fill_start _ _ _ refl }, fitting-counted _ c.requires _ c.nth_word-header.ensures)

pub returns-then-not-endpoint_ok : goal.returns-then-not-endpoint_ok
returns-then-not-endpoint_ok c =
    let k = c.loop-e.invariant.1 in
    wrong-decides _ _ _ k.endpoints c.loop-e-test.true
    (sym (c.endpoint_ok.ensures ∙ ap₂ endpoint_ok k.domains (counted-endpoint _ _ _ _ k _)) ∙ c.if-not-endpoint_ok.true)

pub loop-e-preserved : goal.loop-e-preserved
loop-e-preserved c =
    let so_far = c.loop-e.invariant.0 in
    let k = c.loop-e.invariant.1 in (
      record {
        tested = scan-next _ _ _ _ _ so_far.tested c.loop-e-test.true (sym c.if-not-endpoint_ok.false ∙ c.endpoint_ok.ensures ∙ ap₂ endpoint_ok k.domains (counted-endpoint _ _ _ _ k _));
        named = fill-next _ _ _ _ _ so_far.named (lt_of_lt_of_le c.loop-e-test.true k.most) (ap (λ (w : ℕ). w % 268435456) c.nth_word.ensures ∙ counted-name _ _ _ _ k _);
      },
      k,
    )

pub returns : goal.returns
returns c =
    let k = c.loop-e.invariant.1 in
    c.all_different.ensures ∙ names-decide _ _ _ _ k.endpoints k.most c.loop-e.invariant.0 c.loop-e-test.false
