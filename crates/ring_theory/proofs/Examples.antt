-- The rows of literals about rings hold, each by computation. Assumes nothing.
use mathlib.Core.Path.{refl}
use Rattle.ring_theory.specs.Ring.{first_place, count, lost_count, info, ring_capacity, message_at, put_last, ring_sent, ring_take, ring_of, stored_slot, stored_queue}
use Rattle.machine.specs.Below.{words_below}
use Rattle.machine.specs.Queue.{waiting, lost}
use Rattle.ring_theory.specs.Examples.{EveryRing, ring_rows}

pub every-ring : EveryRing ring_rows
unfolding first_place count lost_count info ring_capacity message_at put_last ring_sent ring_take ring_of stored_slot stored_queue words_below waiting lost
every-ring = (refl, (refl, (refl, (refl, (refl, (refl, tt))))))
