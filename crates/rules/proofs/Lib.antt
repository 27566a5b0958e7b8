-- Laws that the proofs of several functions cite.
pub mod Passed
pub mod Places
pub mod Readings
pub mod Scans
