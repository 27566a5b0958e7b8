-- Laws of a table in bytes.
pub mod Words
pub mod Places
pub mod Laws
