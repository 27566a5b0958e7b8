-- What is claimed of the rows (document 02 (l)): loaded rows are a table's rights, what is put into rows is held and nothing else
-- is altered, and stored rows are the table's rights words.
use Rattle.std.specs.Prelude.{ℕ, ◌*◌, ◌<◌, ◌≤◌, ◌≡◌, List, [], length, get_or}
use Rattle.machine.specs.Word.{word}
use Rattle.machine.specs.Table.{domains, rights_at, rights}
use Rattle.machine.specs.Check.{Accepted}
use Rattle.rights_matrix_theory.specs.Rows.{held_in, with_held, rows_of, stored_rows}

-- sixteen rows of sixteen
pub record Sixteen (rows : List (List ℕ)) : Type 0 where
  pub many : length rows ≡ 16
  pub long : (h : ℕ) → h < 16 → length (get_or rows h []) ≡ 16

-- Rows that represent the rights of a table t of n domains: what each of them holds on each, and nothing on others.
pub record SameRights (n : ℕ) (rows : List (List ℕ)) (t : List ℕ) : Type 0 where
  pub sixteen : Sixteen rows
  pub same : (h g : ℕ) → h < n → g < n → held_in rows h g ≡ rights t h g
  pub nothing : (h g : ℕ) → h < n → n ≤ g → g < 16 → held_in rows h g ≡ 0

-- rows loaded from an accepted table represent its rights
abbrev pub LoadedRights : Type 0
LoadedRights = (t : List ℕ) → Accepted t → SameRights (domains t) (rows_of (domains t) t) t

-- Rows in which h's rights on g have become s, and nothing else has changed.
pub record Altered (rows : List (List ℕ)) (h g s : ℕ) (rows' : List (List ℕ)) : Type 0 where
  pub sixteen : Sixteen rows'
  pub held : held_in rows' h g ≡ s
  pub others : (i j : ℕ) → i < 16 → j < 16 → (i ≡ h → j ≡ g → ⊥) → held_in rows' i j ≡ held_in rows i j

-- what is put into sixteen rows of sixteen is held, and nothing else in them is altered
abbrev pub PutIsHeld : Type 0
PutIsHeld = (rows : List (List ℕ)) (h g s : ℕ) → Sixteen rows → h < 16 → g < 16 → Altered rows h g s (with_held rows h g s)

-- The table t' has the rights of the rows for its rights words, and its other words from t.
pub record StoredTo (n : ℕ) (rows : List (List ℕ)) (t t' : List ℕ) : Type 0 where
  pub size : length t' ≡ length t
  pub rights_words : (h g : ℕ) → h < n → g < n → get_or t' (rights_at n h g) 0 ≡ word 2 (held_in rows h g)
  pub header : get_or t' 0 0 ≡ get_or t 0 0
  pub behind : (i : ℕ) → n * n < i → get_or t' i 0 ≡ get_or t i 0

-- rows stored to a table with words enough for its rights are its rights words, and its other words stay
abbrev pub StoredRights : Type 0
StoredRights = (n : ℕ) (rows : List (List ℕ)) (t : List ℕ) → n * n < length t → StoredTo n rows t (stored_rows n rows t)
