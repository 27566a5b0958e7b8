-- What came before stays at the front, and what came now stands right after it.
use Rattle.std.proofs.Common.{◌-◌, rules, length, subst}
use Rattle.std.specs.Io.KnownBytes.{Consumes}
use Rattle.std.proofs.KnownBytes.{Consumes-trans}
use Rattle.reader.proofs.Parts.{front-and-more}
use Rattle.reader.proofs.read_full.Goals as goal

pub loop-done-preserved : goal.loop-done-preserved
loop-done-preserved g c =
    let have = c.loop-done.done in
    let room = length c.loop-done.buffer - have in
    let within = c.loop-done.invariant.within in
    record {
      within = search rules;
      came = subst (Consumes _ _) (front-and-more have room c.in-Ok.count c.loop-done.buffer c.read.new.buf within c.in-Ok.ensures.bound.0)
          (Consumes-trans _ _ _ _ _ c.loop-done.invariant.came c.in-Ok.ensures.bytes.0);
    }
