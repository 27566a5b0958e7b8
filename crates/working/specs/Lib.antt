-- What the contracts of the run on a working layout cite.
pub mod Outcome
pub mod Run
