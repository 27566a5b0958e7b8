-- What the contracts of `reader` cite: what a read says, and what it leaves in the lent buffer.
pub mod Read
