-- What the contracts of crate calls cite.
pub mod Number
pub mod Decode
pub mod Decide
pub mod Split
