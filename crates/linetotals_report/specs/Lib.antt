-- What the contracts of `linetotals_report` cite: what is printed, as bytes in a buffer.
pub mod Report
pub mod Claims
