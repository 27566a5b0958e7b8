-- What is proved of the potential rights.
pub mod Examples
pub mod Sets
pub mod Matrix
pub mod Grant
pub mod Steps
pub mod Granted
pub mod Closure
pub mod Exact
pub mod Sound
pub mod Lists
