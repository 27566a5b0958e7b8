-- What the proofs of several functions and of callers cite.
pub mod Putting
