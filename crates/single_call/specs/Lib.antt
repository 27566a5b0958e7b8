-- What a call by itself promises.
pub mod Single
