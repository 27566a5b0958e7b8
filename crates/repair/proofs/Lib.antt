-- What the proofs of several functions cite, and what callers cite.
pub mod Passes
pub mod Outcomes
pub mod MendPasses
