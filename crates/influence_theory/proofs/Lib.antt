-- What is proved of those that could influence a domain.
pub mod Exact
pub mod Sound
pub mod Asks
pub mod Lists
pub mod Purged
pub mod TwoLines
pub mod Examples
