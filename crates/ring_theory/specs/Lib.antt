-- A ring and what is done with it, what is claimed of it, and rows of literals that pin it.
pub mod Ring
pub mod Claims
pub mod Examples
