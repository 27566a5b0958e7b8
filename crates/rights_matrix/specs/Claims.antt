-- For callers: when rows represent a table's rights, are altered, and are stored to it (document 02 (l)).
pub use Rattle.rights_matrix_theory.specs.Claims.{SameRights, Altered, StoredTo}
