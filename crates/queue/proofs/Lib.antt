-- What is proved of a send and a receive besides the functions.
pub mod Laws
pub mod Received
pub mod LaterSlots
