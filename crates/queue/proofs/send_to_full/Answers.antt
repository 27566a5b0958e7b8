-- Once the oldest message is out there is space for the new one.
use Rattle.std.proofs.Common.{ℕ, List, subst, sym}
use Rattle.machine.specs.Queue.{lost}
use Rattle.queue.specs.Queue.{QueueRoom}
use Rattle.queue.proofs.Laws.{room-made, pushed-out}
use Rattle.queue.proofs.send_to_full.Goals as goal

pub send_with_space-requires : goal.send_with_space-requires
send_with_space-requires c =
    subst (λ (q : List ℕ). QueueRoom q c.args.message) (sym c.take_oldest.ensures) (room-made _ _ c.requires)

pub returns : goal.returns
unfolding lost
returns c =
    pushed-out _ _ _ _ _ c.take_oldest.ensures c.send_with_space.ensures c.lost_after-lost.ensures
