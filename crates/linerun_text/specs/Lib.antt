-- What the contracts of `linerun_text` cite: linerun's lines.
pub mod Lines
