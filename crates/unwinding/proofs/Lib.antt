-- What is proved of any machine that meets the conditions.
pub mod Unwinding
