-- What the contracts of `linetotals_text` cite: linetotals' lines.
pub mod Lines
