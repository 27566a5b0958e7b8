-- What a reader must believe of `linerun`: from the bytes read to the bytes written. Crate linerun_input defines how many bytes it
-- asks for, and linerun_text a line.
pub mod Lines
pub mod Report
pub mod Cursor
pub mod Examples
