-- What is proved of the counts: laws that the functions' proofs cite.
pub mod CountLaws
