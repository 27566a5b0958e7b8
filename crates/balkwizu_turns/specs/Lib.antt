-- The definitions that the contracts of this crate cite: the number of its release.
pub mod Version
