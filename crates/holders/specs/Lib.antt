-- What the contracts of this crate cite besides the definitions of crates/holders_theory.
pub mod Noted
pub mod Rows
pub mod Asked
