-- Laws that the proofs of several functions cite.
pub mod Parts
pub mod Outcomes
pub mod Beyond
pub mod Hints
