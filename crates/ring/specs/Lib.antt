-- What a receive returns and leaves, and for callers the rings and what they represent.
pub mod Ring
pub mod Received
pub mod Claims
