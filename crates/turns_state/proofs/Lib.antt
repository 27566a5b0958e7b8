-- What is proved of a state's words.
pub mod Blocks
pub mod Words
pub mod Next
pub mod Oldest
pub mod Laws
pub mod Examples
