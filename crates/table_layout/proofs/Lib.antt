-- What is proved besides the functions: the laws of places.
pub mod Places
