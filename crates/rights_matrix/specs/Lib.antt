-- For callers: the rows, and what they represent.
pub mod Rows
pub mod Claims
