-- Laws that the proofs of the functions cite.
pub mod Cells
pub mod Loops
pub mod Settling
pub mod Reported
