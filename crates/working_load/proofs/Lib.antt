-- Laws of loading and storing.
pub mod Places
pub mod LoadLoop
pub mod StoreLoop
pub mod Gathering
pub mod Loaded
pub mod Stored
pub mod Run
