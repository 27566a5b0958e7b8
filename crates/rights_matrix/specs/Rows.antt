-- For callers: rows, and what is done with them (document 02 (l)).
unfoldable pub use Rattle.rights_matrix_theory.specs.Rows.{held_in, with_held, rows_of, stored_rows, has_rights}
