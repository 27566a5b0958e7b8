-- What is proved of linerun's lines as definitions: laws that the program's proofs cite.
pub mod LineLaws
