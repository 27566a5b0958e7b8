-- The results of the code, and what the first pass finds.
pub mod Answer
pub mod FirstPass
pub mod Given
pub mod Rows
