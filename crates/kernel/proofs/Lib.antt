-- What is proved of the kernel besides its functions.
pub mod Fits
pub mod WrittenWords
pub mod RunInvariant
pub mod Entries
pub mod Ranges
pub mod Decided
pub mod Outcomes
pub mod OutcomeLaws
pub mod LastToFirst
pub mod AskedAfterStep
pub mod StepIsRun
