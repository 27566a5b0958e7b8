-- The waiting messages after the oldest are copied one slot up, and the slot that comes free is cleared.
use Rattle.std.proofs.Common.{ℕ, List, ◌+◌, ◌-◌, ap, ◌∙◌, set, arith}
use Rattle.machine.specs.Word.{word}
use Rattle.machine.specs.Queue.{waiting, empty_slot}
use Rattle.queue.proofs.Received.{moved_end}
use Rattle.queue.proofs.take_oldest.Goals as goal

pub returns : goal.returns
unfolding waiting
returns c =
    let left = waiting c.args.q.now - 1 in
    ap (λ (q : List ℕ). set (set q (4 + left) empty_slot) 2 (word 5 left)) c.copy_within.ensures.after
    ∙ moved_end c.args.q.now c.requires.some (omega arith)
