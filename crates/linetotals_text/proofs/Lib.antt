-- What is proved of linetotals' lines as definitions: laws that the program's proofs cite.
pub mod LineLaws
