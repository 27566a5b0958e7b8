-- What the contract of the one function cites.
pub mod Promises
