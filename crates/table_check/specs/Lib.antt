-- The definitions that the contracts of this crate cite besides the machine's: names that differ, and the codes of the check.
pub mod Names
pub mod Checked
