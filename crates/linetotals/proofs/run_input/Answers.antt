-- `run_input` meets its contract: the parts that it read lead from the first stage to this one, and are what the reader gave.
use Prim.Native.Nat.{◌≤◌, ◌<◌}
use mathlib.Core.Path.{◌≡◌, refl, sym, ◌∙◌}
use native.Mathlib.Omega.{arith}
use lib.ListN.{length}
use Rattle.reader.specs.Read.{asked_of, came_of}
use Rattle.reader.proofs.Asked.{asks-all}
use Rattle.linetotals_run.specs.Stage.{wanted_at}
use Rattle.linetotals_run.specs.Step.{State}
use Rattle.linetotals_report.proofs.Loop.{wanted-few, nearer}
use Rattle.linetotals.proofs.Gave.{gave-first, all-asked, gave-next, gave-nearer, gave-ran, space-of}
use Rattle.linetotals.proofs.run_input.Goals as goal

pub loop-input-init : goal.loop-input-init
loop-input-init g c =
    record {
      gave = gave-first _ _ _ _ _ _ c.new-stage.ensures;
      space = space-of _ _ _ _ c.requires refl refl refl;
      table_long = refl;
      input_long = refl;
      list_long = refl;
      answers_long = refl;
      holders_long = refl;
    }

pub loop-input-smaller : goal.loop-input-smaller
loop-input-smaller g c =
    let known = c.loop-input.invariant in
    let read = c.read_wanted-got in
    let asked = all-asked _ _ _ _ known.space _ _ _ known.gave (omega (arith, c.loop-input-test.true, c.wanted.ensures)) c.wanted-in-loop-input.ensures known.input_long read.ensures.read in
    gave-nearer _ _ _ _ known.space _ _ _ known.gave _ _ asked c.step-stage.ensures

pub loop-input-preserved : goal.loop-input-preserved
loop-input-preserved g c =
    let known = c.loop-input.invariant in
    let read = c.read_wanted-got in
    let asked = all-asked _ _ _ _ known.space _ _ _ known.gave (omega (arith, c.loop-input-test.true, c.wanted.ensures)) c.wanted-in-loop-input.ensures known.input_long read.ensures.read in
    record {
      gave = gave-next _ _ _ _ known.space _ _ _ known.gave _ _ asked c.step-stage.ensures _ read.ensures.next;
      space = known.space;
      table_long = omega arith;
      input_long = omega arith;
      list_long = omega arith;
      answers_long = omega arith;
      holders_long = omega arith;
    }

pub returns : goal.returns
returns g c =
    let known = c.loop-input.invariant in
    gave-ran _ _ _ _ known.space _ _ _ known.gave (sym c.wanted.ensures ∙ c.loop-input-test.false)
