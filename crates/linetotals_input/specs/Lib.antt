-- What the contracts of `linetotals_input` cite: what linetotals reads.
pub mod Input
pub mod Next
pub mod Examples
