-- What the contracts of `text` cite: a text as bytes, numbers as text, and bytes written over a lent buffer.
pub mod Ascii
pub mod Decimal
pub mod Write
