-- What the contracts of crate answers cite.
pub mod Answer
pub mod Eight
