-- What the proofs of several functions and of callers cite.
pub mod Passes
pub mod Outcomes
pub mod RowAt
pub mod OneNumber
