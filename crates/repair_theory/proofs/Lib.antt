-- The claims about mending and about a repair hold, and laws of them that the proofs of functions cite.
pub mod Places
pub mod Mended
pub mod Claims
pub mod Changes
pub mod Outcomes
pub mod RepairClaims
pub mod Examples
