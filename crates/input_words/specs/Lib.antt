-- What the contracts of `input_words` cite: bytes as words, and a table from a program's input.
pub mod Bytes
pub mod TableInput
