-- For callers: the writing of the calls of rows, and the outcome that a result in one number says (document 02, (c)).
pub use Rattle.writer_theory.specs.Rows.{writing_rows}
pub use Rattle.writer_theory.specs.Result.{outcome_of}
