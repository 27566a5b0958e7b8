-- `write_sheet` meets its contract: what is lent to the writer is what is printed. Assumes nothing.
use Prim.Native.Nat.{◌-◌}
use mathlib.Core.Path.{◌≡◌, subst}
use mathlib.Core.Bool.{true}
use mathlib.Core.List.{List}
use native.Mathlib.Omega.{arith}
use lib.ListN.{take, drop}
use Rattle.std.proofs.Common.{ℕ}
use Rattle.std.proofs.lemmas.Grind.{common_steps}
use Rattle.std.specs.Io.KnownBytes.{Appends}
use Rattle.text.proofs.WriteLaws.{writes-part}
use Rattle.linetotals_report.specs.Report.{stage_lines}
use Rattle.linetotals.proofs.write_sheet.Goals as goal

pub returns : goal.returns
returns g c =
    let printed = c.report-printed.result in
    let text : take (printed - 0) (drop 0 c.report-printed.new.out) ≡ stage_lines c.args.stage c.args.table.now =
    writes-part (omega arith) c.report-printed.ensures.writes in
    subst
    (λ (t : List ℕ). c.is_ok.result ≡ true → Appends (g.W.Write.contents c.args.writer.now) (g.W.Write.contents c.write_all.new.self) t)
    text (grind (arith, common_steps))
