-- What is proved of the closure, and laws that the proofs of the functions cite.
pub mod Any
pub mod Bits
pub mod Chain
pub mod Bounds
pub mod Loops
pub mod Words
pub mod Examples
