-- Laws that the proofs of the functions cite, and what callers cite.
pub mod Filled
pub mod Kept
pub mod Reported
