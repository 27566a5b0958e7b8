-- `text::write::put` meets its contract: past the end it writes nothing, and otherwise what fits. Assumes nothing.
use Prim.Native.Nat.{◌-◌}
use lib.ListN.{length}
use mathlib.Core.Path.{sym, ◌∙◌}
use native.Mathlib.Omega.{arith}
use Rattle.text.proofs.WriteLaws.{overwrite-past, write-all}
use Rattle.text.proofs.write.put.Goals as goal

pub returns-then-out-at : goal.returns-then-out-at
returns-then-out-at c =
    let given = c.args in
    record { place = omega arith; bytes = sym (overwrite-past given.at given.text.now given.out.now (omega arith)) }

pub returns-then-room-text : goal.returns-then-room-text
returns-then-room-text c =
    let given = c.args in
    record {
      place = omega arith;
      bytes = c.copy.ensures ∙ write-all given.at (length given.out.now - given.at) given.text.now given.out.now (omega arith);
    }

pub returns : goal.returns
returns c =
    let given = c.args in
    record {
      place = omega arith;
      bytes = c.copy-2.ensures ∙ write-all given.at (length given.text.now) given.text.now given.out.now (omega arith);
    }
