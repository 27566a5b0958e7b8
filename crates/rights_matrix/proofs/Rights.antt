-- For callers: rows hold a table's rights. Assumes nothing.
pub use Rattle.rights_matrix_theory.proofs.Rights.{loaded-rights, put-is-held, stored-rights}
