-- What is proved of the refusals besides their functions.
pub mod Refusals
