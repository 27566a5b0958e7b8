-- What becomes of a table's words when it is mended, what a repair reports of it, what is claimed of both, and rows that pin them.
pub mod Mend
pub mod Claims
pub mod Changes
pub mod Repair
pub mod RepairClaims
pub mod Examples
