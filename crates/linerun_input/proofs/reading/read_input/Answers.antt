-- `reading::read_input` meets its contract: each read is a step of the stage, there are ever fewer left, and what a step brings is
-- what the reader gave. Assumes nothing.
use mathlib.Core.Path.{◌∙◌}
use native.Mathlib.Nat.{pos_of_ne-zero}
use Rattle.std.proofs.KnownBytes.{Consumes-nil}
use Rattle.linerun_input.specs.Stage.{started}
use Rattle.linerun_input.proofs.StageLaws.{reached-first, reached-next, given-next, fewer-left, reads_nothing}
use Rattle.linerun_input.proofs.reading.read_input.Goals as goal

pub returns-then-buffer-ne-MOST_INPUT : goal.returns-then-buffer-ne-MOST_INPUT
unfolding started
returns-then-buffer-ne-MOST_INPUT g c =
    rw c.started-input.ensures
    (record { read = reads_nothing _ c.if-buffer-ne-MOST_INPUT.true; next = Consumes-nil _ })

pub loop-have-init : goal.loop-have-init
unfolding started
loop-have-init g c =
    rw c.started-input.ensures
    (record { reached = reached-first _ c.if-buffer-ne-MOST_INPUT.false; given = Consumes-nil _ })

-- a turn of the loop: something is wanted, and it is what is read
pub loop-have-smaller : goal.loop-have-smaller
loop-have-smaller g c =
    let more = pos_of_ne-zero (λ e. c.loop-have-test.true (c.wanted.ensures ∙ e)) in
    rw c.stepped-input.ensures (fewer-left c.loop-have.buffer c.read_wanted-got.new.buffer c.loop-have.input
    c.read_wanted-got.result c.loop-have.invariant.reached more _ _ c.have-have.ensures c.wanted-want.ensures c.read_wanted-got.ensures.read)

pub loop-have-preserved : goal.loop-have-preserved
loop-have-preserved g c =
    let before = c.loop-have.buffer in
    let after = c.read_wanted-got.new.buffer in
    let input = c.loop-have.input in
    let got = c.read_wanted-got.result in
    let at_loop = c.loop-have.invariant in
    let read = c.read_wanted-got.ensures in
    let more = pos_of_ne-zero (λ e. c.loop-have-test.true (c.wanted.ensures ∙ e)) in
    rw c.stepped-input.ensures
    (record {
      reached = reached-next before after input got at_loop.reached more _ _ c.have-have.ensures c.wanted-want.ensures read.read;
      given = given-next before after input got at_loop.reached more _ _ c.have-have.ensures c.wanted-want.ensures read.read _ _ _ at_loop.given read.next;
    })
