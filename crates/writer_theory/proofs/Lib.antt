-- What is proved of the words of a call.
pub mod FieldWords
pub mod Reading
pub mod Writing
pub mod ListClaims
pub mod Rows
pub mod NoneRefused
pub mod Result
pub mod Examples
pub mod RowExamples
