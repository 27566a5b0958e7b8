-- What is claimed of two lines that run one list (document 02 (g)), and of connected components (document 02 (j)).
pub mod PromisedRun
pub mod TwoLines
pub mod LineExamples
pub mod Component
pub mod ComponentExamples
