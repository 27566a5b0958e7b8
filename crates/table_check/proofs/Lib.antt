-- Laws that the proofs of several functions cite.
pub mod Fill
pub mod Flags
pub mod Places
pub mod Gather
pub mod Refusals
