-- The definitions that the contracts of this crate cite: a run's code and its count of calls.
pub mod Entry
