-- Rows and what is done with them, what is claimed of them, and literals that pin them.
pub mod Rows
pub mod Claims
pub mod Examples
