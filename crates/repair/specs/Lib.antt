-- The answers of the code, for callers what is promised of them, and what the passes over a table leave.
pub mod Repair
pub mod Answer
pub mod Passes
