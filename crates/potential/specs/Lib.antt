-- What the contracts of this crate cite besides the machine and what is claimed of potential rights.
pub mod Reported
