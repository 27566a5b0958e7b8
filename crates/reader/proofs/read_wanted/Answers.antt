-- The bytes before the place that is lent, and those after it, stay.
use Rattle.std.proofs.Common.{◌≡◌, ◌+◌, ◌-◌, ◌≤◌, length, arith}
use borrow.Author.Tests.{le-leb}
use borrow.Rule.Slice.PartMut.{take_put, drop_put}
use Rattle.reader.proofs.read_wanted.Goals as goal

pub returns-clause-read : goal.returns-clause-read
returns-clause-read g c =
    let have = c.args.have in
    let want = c.args.want in
    let buffer = c.args.buffer.now in
    let stored = c.read_full-came.new.buffer in
    let fits : have + want ≤ length buffer = omega arith in
    let long : length stored ≡ have + want - have = omega arith in
    record {
      asked_is = simp (le-leb _ _ fits);
      came-few = omega arith;
      front = take_put have (have + want - have) buffer stored (omega arith);
      rest = drop_put have (have + want) buffer stored (omega arith) fits long;
      long = omega arith;
    }
