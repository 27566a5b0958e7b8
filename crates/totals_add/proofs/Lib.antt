-- What is proved of counting and adding: laws that the functions' proofs cite.
pub mod SumLaws
pub mod RunLaws
pub mod TallyLaws
