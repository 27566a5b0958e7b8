-- Laws that the proofs of several functions cite.
pub mod Wrong
pub mod Scan
pub mod Short
pub mod Counted
