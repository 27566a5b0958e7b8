-- What is proved of linerun's input as definitions: laws that the programs' proofs cite.
pub mod InputLaws
pub mod StageLaws
