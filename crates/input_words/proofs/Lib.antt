-- What is proved of words of bytes and of a table in them: laws that the proofs here and of the programs cite.
pub mod WordLaws
pub mod TableLaws
pub mod GivenTable
pub mod Needed
