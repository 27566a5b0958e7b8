-- What becomes of the holders, what they report, what is claimed of them, and rows that pin them.
pub mod Noted
pub mod Asked
pub mod Claims
pub mod Examples
