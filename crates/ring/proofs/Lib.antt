-- Laws of rings that the proofs of several functions, and other crates, cite.
pub mod Words
pub mod Simulation
