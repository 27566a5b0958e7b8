-- The potential rights, how they are computed, what is claimed of them, and rows that pin them.
pub mod Potential
pub mod Closure
pub mod Lists
pub mod Claims
pub mod Examples
