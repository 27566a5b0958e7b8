-- What is proved of two lines, and of connected components.
pub mod Ran
pub mod TwoLines
pub mod LineExamples
pub mod Component
pub mod ComponentExamples
