-- What the contracts of crate kernel cite.
pub mod Step
pub mod AskedAfterStep
pub mod StepIsRun
pub mod Outcome
pub mod Run
pub mod Entered
pub mod Reports
