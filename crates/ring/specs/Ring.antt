-- For callers: the words of a ring, and what is done with them (document 02 (l)).
unfoldable pub use Rattle.ring_theory.specs.Ring.{first_place, count, lost_count, info, ring_owner, ring_capacity, message_at, ring_sent, ring_take, ring_of, stored_slot, stored_queue, of_twelve}
