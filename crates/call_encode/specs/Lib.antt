-- What the contracts of this crate cite besides the words of a call, which are in crate writer_theory.
pub mod Put
