-- The working state of a run, what is claimed of it, and what is claimed of two runs of a list.
pub mod State
pub mod Represents
pub mod TwoRuns
