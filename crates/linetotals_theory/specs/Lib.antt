-- What a reader must believe of `linetotals`: from the bytes read to the bytes written. Crate totals_theory defines what is
-- counted, linetotals_input how many bytes are asked for, and linetotals_text a line.
pub mod Sheet
pub mod Claims
pub mod Examples
