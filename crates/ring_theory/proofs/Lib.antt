-- The claims about rings and their rows of literals hold, and laws that the proofs of functions cite.
pub mod Filled
pub mod Simulation
pub mod Examples
