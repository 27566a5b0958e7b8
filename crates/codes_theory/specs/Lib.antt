-- The layout of a table, and claims about codes.
pub mod Layout
pub mod Claims
