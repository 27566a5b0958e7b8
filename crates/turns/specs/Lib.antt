-- What the contracts of handing in and turns cite (document 02 (m)).
pub mod Codes
pub mod Promise
pub mod Examples
pub mod Claims
pub mod WordHistory
