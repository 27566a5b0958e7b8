-- What is proved of histories of handing in and turns.
pub mod Pending
pub mod Histories
pub mod InTime
pub mod Order
pub mod Codes
pub mod Examples
