-- What the contracts of `table_words` cite besides the machine: the bits that are wrong in a word.
pub mod Wrong
