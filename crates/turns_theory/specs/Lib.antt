-- What is pending, what a turn does, histories of handing in and turns, and what is claimed of them (document 02 (m)).
pub mod Turns
pub mod History
pub mod Claims
pub mod Examples
