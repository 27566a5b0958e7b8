-- The words of a call, and what is claimed of them (document 02, (c)).
pub mod Words
pub mod Claims
pub mod Write
pub mod Rows
pub mod Result
pub mod ListClaims
pub mod Examples
pub mod RowExamples
