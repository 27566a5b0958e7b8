-- What is proved of the totals.
pub mod TotalsLaws
pub mod Examples
