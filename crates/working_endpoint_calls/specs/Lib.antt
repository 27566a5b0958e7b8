-- What the contracts of this crate cite besides the working state.
pub mod Outcome
