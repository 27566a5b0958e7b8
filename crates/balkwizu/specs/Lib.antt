-- What the C boundary's own contracts cite: the release.
pub mod Version
