-- What is proved of linetotals' input as definitions: laws that the program's proofs cite.
pub mod ListLaws
pub mod ListLoop
pub mod Examples
