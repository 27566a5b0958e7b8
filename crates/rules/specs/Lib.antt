-- What the contracts of this crate cite besides the definitions of the machine and of crate calls.
pub mod Decision
pub mod Range
pub mod Access
pub mod Readings
