-- What a receive from a ring of arbitrary words returns and leaves (document 02 (l)).
use Rattle.std.specs.Prelude.{◌≡◌, List, ℕ}
use Rattle.ring_theory.specs.Ring.{message_at, lost_count, ring_take, of_twelve}
use Rattle.ring.specs.declared.Received.{Received}

-- a receive from the ring r returns `shown` and leaves the ring r'
pub record Taken (r : List ℕ) (shown : Received) (r' : List ℕ) : Type 0 where
  pub message : shown.message ≡ of_twelve r (message_at r 0) 0
  pub lost : shown.lost ≡ of_twelve r (lost_count r) 0
  pub left : r' ≡ of_twelve r (ring_take r) r
