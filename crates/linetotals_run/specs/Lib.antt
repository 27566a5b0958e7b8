-- What the contracts of `linetotals_run` cite: the stages of a reading, and the step from one to the next.
pub mod Stage
pub mod Step
