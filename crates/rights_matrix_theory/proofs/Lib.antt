-- The claims about rows and about their literals hold.
pub mod Rights
pub mod Examples
