-- What the contracts of this crate cite, and what is claimed of it.
pub mod Closure
pub mod Chain
pub mod Examples
