-- What the contracts of a send and a receive cite, what is claimed of the slots after the waiting messages, and rows for a receive.
pub mod Queue
pub mod LaterSlots
