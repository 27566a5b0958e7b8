-- What the contracts about a state's words cite (document 02 (m)).
pub mod State
pub mod Pending
pub mod Examples
