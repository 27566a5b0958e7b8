-- What the contracts of loading and storing cite, and what is claimed of them.
pub mod Layout
pub mod Claims
pub mod Run
