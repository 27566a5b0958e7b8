-- What is proved of the holders, and laws of them that the proofs of functions cite.
pub mod OneBit
pub mod Filled
pub mod Kept
pub mod Reported
pub mod AskCode
pub mod EveryCall
pub mod Examples
