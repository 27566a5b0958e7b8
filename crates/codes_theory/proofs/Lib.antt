-- The claims hold.
pub mod TableCodes
pub mod EntryCodes
pub mod Space
pub mod Named
