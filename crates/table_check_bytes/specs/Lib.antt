-- The contract of the check of an image: document 01's definitions over bytes.
pub mod Bytes
