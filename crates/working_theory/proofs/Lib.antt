-- What is proved of the working state.
pub mod Rings
pub mod Reading
pub mod Answered
pub mod Simulation
pub mod TwoRuns
